-- A leaf that a call flagged is led to by flagged edges alone, from the root and from wherever a
-- later walk of the call came.
use Rattle.std.proofs.Common.{◌≡◌, ◌≢◌, ℕ, ◌<◌, ◌≤◌, ◌⊎◌, inl, inr, ◌==◌, true, false, cond, ◌&&◌, ◌||◌, List, [], ◌∷◌, ◌++◌, map, length, refl, sym, ap, subst, ◌∙◌, arith}
use Rattle.std.specs.Prelude.{Some, None, is_none, slice_get}
use Rattle.std.specs.List.{list_any}
use Rattle.std.proofs.lemmas.Bool.{cond_both, eqb-false, or_cases}
use Rattle.nm_edge.specs.Edges.{Edge, to}
use Rattle.nm_edge.specs.declared.edge.Side.{Side}
use Rattle.nm_edge.specs.declared.node.NodeId.{NodeId}
use Rattle.nm_model.specs.declared.event.Field.{Field}
use Rattle.nm_model.specs.declared.event.Field.TheVariants.{Key, Edge as EdgeOn}
use Rattle.nm_model.specs.declared.event.Event.{Event}
use Rattle.nm_model.specs.declared.event.Event.TheVariants.{Flag}
use Rattle.nm_model.specs.declared.reply.Reply.{Reply}
use Rattle.nm_model.specs.declared.reply.Reply.TheVariants.{KeyIs, EdgeIs, Flagged}
use Rattle.nm_model.specs.declared.arrivals.Arrival.{Arrival}
use Rattle.nm_model.specs.Memory.{Memory, edge, child, put_edge}
use Rattle.nm_model.specs.Knowledge.{knows}
use Rattle.nm_model.specs.Learning.{flag_to}
use Rattle.nm_model.specs.Paths.{follow}
use Rattle.nm_model.specs.Searches.{Search, searched, keyed, ended, goes_on, is_first, is_by, new_arrival, with_arrival, walked}
use Rattle.nm_model.specs.Walks.{begins_anew}
use Rattle.nm_model.proofs.Lists.{mapped_at, more_at}
use Rattle.nm_laws.proofs.Trees.{same_follow, follow-append}
use Rattle.nm_laws.proofs.Pictures.{alone, IsLive, IsOnPath}
use Rattle.nm_laws.proofs.Views.{picture, edge_put}
use Rattle.nm_laws.proofs.Slots.{with_edge-same}
use Rattle.nm_laws.proofs.Splices.{live_on_path, unmarked_not_queued}
use Rattle.nm_laws.proofs.TreeSteps.{Lawful}
use Rattle.nm_laws.proofs.SearchesGrow.{look_beside, begun_is, search_goes}
use Rattle.nm_model.specs.Runs.{State, of}
use Rattle.nm_order.proofs.FlaggedPaths.{LeadsFlagged, Put, put_case}
use Rattle.nm_order.proofs.FlaggedPaths.Put.{Here, There}

-- ---- where walks came, whatever they read there

abbrev pub AllPlaces : (ℕ → ℕ → Side → Type 0) → List Arrival → Type 0
AllPlaces P ws = (i : ℕ) (a : Arrival) → slice_get ws i ≡ Some a → P a.slot a.parent a.side

module _ (P : ℕ → ℕ → Side → Type 0) where
  at_map : (f : Arrival → Arrival) → ((a : Arrival) → P a.slot a.parent a.side
      → P (f a).slot (f a).parent (f a).side) → (ws : List Arrival) → AllPlaces P ws → AllPlaces P (map f ws)
  at_map f keeps ws all i b at = let a = mapped_at f ws i b at in
      subst (λ (c : Arrival). P c.slot c.parent c.side) (sym a.2) (keeps a.0 (all i a.0 a.1))

  arrive : (ws : List Arrival) (x p : ℕ) (d : Side) → AllPlaces P ws → P x p d → AllPlaces P (with_arrival ws x p d)
  arrive ws x p d all new = cond_both (list_any (is_by x p d) ws) ws (ws ++ new_arrival x p d ∷ []) (AllPlaces P)
      (λ _. all)
      (λ _ i a at. elim (more_at ws (new_arrival x p d) i a at) [
        | inl old ↦ all i a old
        | inr is ↦ subst (λ (c : Arrival). P c.slot c.parent c.side) (sym is) new
      ])

  pub places_walked : (k : ℕ) (ws : List Arrival) (x : ℕ) (f : Field) (r : Reply) → AllPlaces P ws
      → ((d : Side) (e : Edge) → f ≡ EdgeOn d → r ≡ EdgeIs e → e.slot ≢ 0
      → (is_first x d ≡ true) ⊎ (list_any (goes_on k x d) ws ≡ true) → P e.slot x d) → AllPlaces P (walked k ws x f r)
  places_walked k ws x Key (KeyIs v) all new = at_map (keyed x v)
      (λ a p. cond_both ((a.slot == x) && is_none a.key) (record a { key = Some v }) a (λ c. P c.slot c.parent c.side)
      (λ _. p) (λ _. p)) ws all
  places_walked k ws x (EdgeOn d) (EdgeIs e) all new = cond_both (e.slot == 0) (map (ended k x d) ws)
      (cond (is_first x d || list_any (goes_on k x d) ws) (with_arrival ws e.slot x d) ws) (AllPlaces P)
      (λ _. at_map (ended k x d) (λ a p. cond_both (goes_on k x d a) (record a { ended = true }) a
      (λ c. P c.slot c.parent c.side) (λ _. p) (λ _. p)) ws all)
      (λ some. cond_both (is_first x d || list_any (goes_on k x d) ws) (with_arrival ws e.slot x d) ws (AllPlaces P)
      (λ goes. arrive ws e.slot x d all (new d e refl refl (eqb-false e.slot 0 some)
      (or_cases (is_first x d) (list_any (goes_on k x d) ws) goes)))
      (λ _. all))
  places_walked k ws x f r all new = all

-- ---- what becomes of the leaf that a search has flagged

pub data FlagStep (s : Search) (e : Event) (r : Reply) (t : Search) : Type 0 where
  SameFlag : t.flagged ≡ s.flagged → FlagStep s e r t
  NewFlag : (p leaf : ℕ) (d : Side) (n : NodeId) → e ≡ Flag p d leaf → r ≡ Flagged n → t.flagged ≡ Some n
      → t.later ≡ s.later → FlagStep s e r t

pub flag_step : (s : Search) (e : Event) (r : Reply) → begins_anew (e, r) ≡ false → FlagStep s e r (searched s e r)
flag_step s = search_goes (FlagStep s) s (λ x f r. SameFlag
    (ap (λ (t : Search). t.flagged) (look_beside s s.call x f r))) (λ p side leaf new n. SameFlag refl)
    (λ p side leaf n. NewFlag p leaf side n refl refl refl refl) (λ a side x p keep ns. SameFlag refl)
    (λ p side leaf new ns. SameFlag refl) (λ e r. SameFlag refl)

pub anew_unflagged : (s : Search) (e : Event) (r : Reply) → begins_anew (e, r) ≡ true → (searched s e r).flagged ≡ None
anew_unflagged s e r anew = ap (λ (t : Search). t.flagged) (begun_is s e r anew)

put_here : (m : Memory) (p : ℕ) (d : Side) (e : Edge) → p < length m.nodes → edge (put_edge m p d e) p d ≡ e
put_here m p d e inside = edge_put m p d e inside p d ∙ with_edge-same (edge m) p d e

-- ---- a flag that is won is on the one edge that leads to its leaf

pub last_of : (q r : List Side) (g d : Side) → q ++ g ∷ [] ≡ r ++ d ∷ [] → (q ≡ r) × (g ≡ d)
last_of [] [] g d is = (refl, cc)
last_of [] (x ∷ r) g d is = absurd (short r (tails is))
  where
    tails : {a b : List Side} → g ∷ a ≡ x ∷ b → a ≡ b
    tails e = cc

    short : (r : List Side) → [] ≡ r ++ d ∷ [] → ⊥
    short [] e = cc
    short (y ∷ r) e = cc
last_of (x ∷ q) [] g d is = absurd (short q (sym (tails is)))
  where
    tails : {a b : List Side} → x ∷ a ≡ d ∷ b → a ≡ b
    tails e = cc

    short : (r : List Side) → [] ≡ r ++ g ∷ [] → ⊥
    short [] e = cc
    short (y ∷ r) e = cc
last_of (x ∷ q) (y ∷ r) g d is = let rest = last_of q r g d (tails is) in ((λ i. heads is i ∷ rest.0 i), rest.1)
  where
    heads : {a b : List Side} → x ∷ a ≡ y ∷ b → x ≡ y
    heads e = cc

    tails : {a b : List Side} → x ∷ a ≡ y ∷ b → a ≡ b
    tails e = cc

pub flag_leads : (s : State) (h : ℕ → ℕ) (law : Lawful s h) (w p : ℕ) (d : Side) (leaf : ℕ)
    → p < length s.memory.nodes → knows (of s w) p ≡ true → leaf ≢ 0 → edge s.memory p d ≡ to leaf
    → LeadsFlagged (put_edge s.memory p d (flag_to leaf)) leaf 1
flag_leads s h law w p d leaf inside known some unmarked path g to_leaf =
    ap (λ (y : ℕ). (edge (put_edge s.memory p d (flag_to leaf)) y g).flag) at_p
    ∙ (ap (λ (f : Side). (edge (put_edge s.memory p d (flag_to leaf)) p f).flag) one_path.1
    ∙ ap (λ (e : Edge). e.flag) (put_here s.memory p d (flag_to leaf) inside))
  where
    same : (y : ℕ) (f : Side) → child (put_edge s.memory p d (flag_to leaf)) y f ≡ child s.memory y f
    same y f = by (put_case s.memory p d (flag_to leaf) inside y f)
      where
        by : Put s.memory p d (flag_to leaf) y f → child (put_edge s.memory p d (flag_to leaf)) y f ≡ child s.memory y f
        by (Here at side is) = ap (λ (e : Edge). e.slot) is
            ∙ (ap (λ (e : Edge). e.slot) (sym unmarked) ∙ (ap (λ (z : ℕ). child s.memory z d) (sym at)
            ∙ ap (child s.memory y) side))
        by (There is) = ap (λ (e : Edge). e.slot) is

    range : (1 ≤ p) × (p ≤ s.layout.nodes)
    range = law.tree.known w p known

    live : IsLive (picture s h) p
    live = law.tree.guarded w p (record {
      from = p;
      known = known;
      path = [];
      ends = refl;
      is_slot = λ z.
          (let r = law.tree.known w p known in absurd (omega arith));
    })

    above : IsOnPath (picture s h) p
    above = live_on_path s.layout.nodes (picture s h) p law.tree live
        (λ z. (let r = law.tree.known w p known in absurd (omega arith))) range.1
        (unmarked_not_queued s.layout.nodes (picture s h) p d leaf law.tree unmarked some)

    here : follow (child (put_edge s.memory p d (flag_to leaf))) 1 path ≡ follow (child s.memory) 1 path
    here = same_follow (child s.memory) (child (put_edge s.memory p d (flag_to leaf))) same 1 path

    first_end : follow (child s.memory) 1 (path ++ g ∷ []) ≡ leaf
    first_end = follow-append (child s.memory) 1 path (g ∷ [])
        ∙ (ap (λ (y : ℕ). child s.memory y g) (sym here)
        ∙ (sym (same (follow (child (put_edge s.memory p d (flag_to leaf))) 1 path) g) ∙ to_leaf))

    second_end : follow (child s.memory) 1 (above.path ++ d ∷ []) ≡ leaf
    second_end = follow-append (child s.memory) 1 above.path (d ∷ [])
        ∙ (ap (λ (y : ℕ). child s.memory y d) above.ends ∙ ap (λ (e : Edge). e.slot) unmarked)

    one_path : (path ≡ above.path) × (g ≡ d)
    one_path = last_of path above.path g d (alone s.layout.nodes (picture s h) law.tree (path ++ g ∷ [])
        (above.path ++ d ∷ []) (λ z. some (sym first_end ∙ z)) (first_end ∙ sym second_end))

    at_p : follow (child (put_edge s.memory p d (flag_to leaf))) 1 path ≡ p
    at_p = here ∙ (ap (follow (child s.memory) 1) one_path.0 ∙ above.ends)
