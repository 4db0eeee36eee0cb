-- A node that is reached stays reached, with its birth, until a turn cuts it off: by turns with the
-- headline alone.
use Rattle.std.proofs.Common.{◌≡◌, inl, inr, ℕ, zero, suc, ◌≤◌, Bool, true, false, cond, List, [], ◌∷◌, ◌++◌, append-nil, append_assoc, map, length, get_or, get_or-set_other, get_or-set_same, refl, sym, ap, subst, ◌∙◌, arith}
use Rattle.std.specs.Prelude.{Contains, Result, Ok}
use native.Mathlib.Decide.{ℕ_discrete}
use Rattle.std.proofs.lemmas.Bool.{cases_lt, eq-eqb}
use Rattle.std.proofs.lemmas.List.{set_past}
use Rattle.std.proofs.lemmas.List.Elements.{Contains-append_left, Contains-append_right}
use Rattle.nm_edge.specs.Edges.{Edge, tagged, to, untagged}
use Rattle.nm_edge.specs.Layouts.{Layout}
use Rattle.nm_edge.specs.declared.edge.Side.{Side}
use Rattle.nm_edge.specs.declared.edge.Side.TheVariants.{Left, Right}
use Rattle.nm_edge.specs.declared.node.NodeId.{NodeId}
use Rattle.nm_model.specs.declared.event.Event.{Event}
use Rattle.nm_model.specs.declared.event.Event.TheVariants.{Advance, Announce, Claim, Fill, Flag, Give, Leave, LeaveWith, Link, Splice, Swap, Tag}
use Rattle.nm_model.specs.declared.event.Field.TheVariants.{Birth, Edge as EdgeOn, Key}
use Rattle.nm_model.specs.declared.memory.Node.{Node}
use Rattle.nm_model.specs.declared.reply.Reply.{Reply}
use Rattle.nm_model.specs.declared.reply.Reply.TheVariants.{Announced, Claimed, Cut, Departed, Filled, Flagged, Freed, Linked, Moved, Returned, Was}
use Rattle.nm_model.specs.declared.reply.Refused.{Refused}
use Rattle.nm_model.specs.declared.trace.Turn.{Turn}
use Rattle.nm_model.specs.Headline.{CutsItsNodes, Headline, OnePlace, Place, StandsAt, after_turn, cuts_of, nodes_cut_of, slots_of, words_after, words_from, written}
use Rattle.nm_model.specs.Headline.Place.{InHands, InPool, OnPath, Waits}
use Rattle.nm_model.specs.Memory.{Memory, blank, edge, named, node, opening, put_edge, put_node, with_edge}
use Rattle.nm_model.specs.Paths.{Reached}
use Rattle.nm_theorem.proofs.FreedOfRuns.{cuts-append}
use Rattle.nm_calls.proofs.Unheld.{contains_slot, not_place}

-- ---- births

abbrev birth : Memory → ℕ → ℕ
birth m x = (node m x).birth

node_birth : (m : Memory) (s : ℕ) (n : Node) → n.birth ≡ birth m s → (x : ℕ) → birth (put_node m s n) x ≡ birth m x
node_birth m s n same x = elim (ℕ_discrete x s) [
  | yes e ↦ rw e (elim (cases_lt s (length m.nodes)) [
    | inl inside ↦ ap (λ (z : Node). z.birth) (get_or-set_same m.nodes s n blank inside) ∙ same
    | inr past ↦ ap (λ (ns : List Node). (get_or ns s blank).birth) (set_past m.nodes s n past)
  ])
  | no ne ↦ ap (λ (z : Node). z.birth) (get_or-set_other m.nodes s x n blank ne)
]

edge_birth : (n : Node) (d : Side) (e : Edge) → (with_edge n d e).birth ≡ n.birth
edge_birth n Left e = refl
edge_birth n Right e = refl

pub put_birth : (m : Memory) (s : ℕ) (d : Side) (e : Edge) (x : ℕ) → birth (put_edge m s d e) x ≡ birth m x
put_birth m s d e = node_birth m s (with_edge (node m s) d e) (edge_birth (node m s) d e)

-- only a store of the slot's birth changes it
birth_kept : (m : Memory) (w : ℕ) (e : Event) (o : Result Reply Refused) (x : ℕ)
    → ((v : ℕ) → e ≡ Fill x Birth v → o ≡ Ok Filled → ⊥) → birth (written m w e o) x ≡ birth m x
birth_kept m w Announce (Ok (Announced n)) x other = refl
birth_kept m w Leave (Ok Departed) x other = refl
birth_kept m w (LeaveWith answer) (Ok Departed) x other = refl
birth_kept m w Advance (Ok (Moved n)) x other = refl
birth_kept m w (Claim s) (Ok (Claimed t)) x other = refl
birth_kept m w (Give s) (Ok (Returned t)) x other = refl
birth_kept m w (Give s) (Ok (Freed n)) x other = refl
birth_kept m w (Fill s Key v) (Ok Filled) x other = node_birth m s (record (node m s) { key = v }) refl x
birth_kept m w (Fill s (EdgeOn side) v) (Ok Filled) x other = put_birth m s side (to v) x
birth_kept m w (Fill s Birth v) (Ok Filled) x other = elim (ℕ_discrete x s) [
  | yes e ↦ absurd (other v (ap (λ (y : ℕ). Fill y Birth v) (sym e)) refl)
  | no ne ↦ ap (λ (z : Node). z.birth) (get_or-set_other m.nodes s x (record (node m s) { birth = v }) blank ne)
]
birth_kept m w (Link p side leaf new) (Ok (Linked n)) x other = put_birth m p side (to new) x
birth_kept m w (Flag p side leaf) (Ok (Flagged n)) x other = put_birth m p side
    (record { slot = leaf; flag = true; tag = false }) x
birth_kept m w (Tag p side) (Ok (Was e)) x other = put_birth m p side (tagged e) x
birth_kept m w (Splice a side s p keep) (Ok (Cut ns)) x other = put_birth m a side (untagged (edge m p keep)) x
birth_kept m w (Swap p side leaf new) (Ok (Cut ns)) x other = put_birth m p side (to new) x
birth_kept m w e o x other = refl

pub words_push : (m : Memory) (ts : List Turn) (t : Turn) → words_from m (ts ++ t ∷ []) ≡ after_turn (words_from m ts) t
words_push m [] t = refl
words_push m (u ∷ ts) t = words_push (after_turn m u) ts t

-- a link changes no birth
pub link_keeps_birth : (L : Layout) (before : List Turn) (w p : ℕ) (side : Side) (old new : ℕ) (n : NodeId) (x : ℕ)
    → named (words_after L (before ++ record { worker = w; event = Link p side old new; outcome = Ok (Linked n) }
    ∷ [])) x ≡ named (words_after L before) x
link_keeps_birth L before w p side old new n x =
    ap (λ (m : Memory). named m x) (words_push (opening L) before
    (record { worker = w; event = Link p side old new; outcome = Ok (Linked n) }))
    ∙ (λ i. record { slot = x; birth = put_birth (words_after L before) p side (to new) x i })

-- nor does a swap
pub swap_keeps_birth : (L : Layout) (before : List Turn) (w p : ℕ) (side : Side) (old new : ℕ) (ns : List NodeId)
    (x : ℕ) → named (words_after L (before ++ record
    { worker = w; event = Swap p side old new; outcome = Ok (Cut ns) } ∷ [])) x ≡ named (words_after L before) x
swap_keeps_birth L before w p side old new ns x =
    ap (λ (m : Memory). named m x) (words_push (opening L) before
    (record { worker = w; event = Swap p side old new; outcome = Ok (Cut ns) }))
    ∙ (λ i. record { slot = x; birth = put_birth (words_after L before) p side (to new) x i })

-- ---- the node that a turn cuts

-- each node of a cut has the birth that it had right before
pub cut_births : (m : Memory) (t : Turn) → CutsItsNodes m t → (ns : List NodeId) → t.outcome ≡ Ok (Cut ns)
    → ns ≡ map (named m) (slots_of ns)
cut_births m t c ns is = elim (c.splices ns is) [
  | inl splice ↦ splice.births
  | inr swap ↦ swap.nodes ∙ sym (ap (λ (ms : List NodeId). map (named m) (slots_of ms)) swap.nodes)
]

none_there : (n : NodeId) → Contains [] n → ⊥
none_there n c = let below = c.1 in omega (arith, below)

pub cut_outcome : (o : Result Reply Refused) (n : NodeId) → Contains (nodes_cut_of o) n
    → (ns : List NodeId) × (o ≡ Ok (Cut ns)) × Contains ns n
cut_outcome (Ok (Cut ns)) n c = (ns, refl, c)
cut_outcome o n c = absurd (none_there n c)

pub in_named : (m : Memory) (xs : List ℕ) (n : NodeId) → Contains (map (named m) xs) n → n ≡ named m n.slot
in_named m [] n c = absurd (none_there n c)
in_named m (x ∷ xs) n (zero, below, at) = sym at ∙ ap (λ (k : NodeId). named m k.slot) at
in_named m (x ∷ xs) n (suc k, below, at) = in_named m xs n (k, omega (arith, below), at)

-- a node that a turn cuts has the birth in its word
pub cut_has_birth : (m : Memory) (t : Turn) → CutsItsNodes m t → (n : NodeId) → Contains (nodes_cut_of t.outcome) n
    → n ≡ named m n.slot
cut_has_birth m t cuts n c = by (cut_outcome t.outcome n c)
  where
    by : (ns : List NodeId) × (t.outcome ≡ Ok (Cut ns)) × Contains ns n → n ≡ named m n.slot
    by (ns, o, among) = in_named m (slots_of ns) n
        (subst (λ (ks : List NodeId). Contains ks n) (cut_births m t cuts ns o) among)

pub cut_is_named : (m : Memory) (t : Turn) → CutsItsNodes m t → (x : ℕ)
    → Contains (slots_of (nodes_cut_of t.outcome)) x → Contains (nodes_cut_of t.outcome) (named m x)
cut_is_named m t cuts x c = subst (λ (n : NodeId). Contains (nodes_cut_of t.outcome) n)
    (cut_has_birth m t cuts there.0 there.1 ∙ ap (named m) there.2) there.1
  where
    there : (n : NodeId) × Contains (nodes_cut_of t.outcome) n × (n.slot ≡ x)
    there = contains_slot (nodes_cut_of t.outcome) x c

-- it is among the cuts of the turn's worker then
pub now_cut : (before : List Turn) (t : Turn) (n : NodeId) → Contains (nodes_cut_of t.outcome) n
    → Contains (cuts_of t.worker (before ++ t ∷ [])) n
now_cut before t n c =
    subst (λ (ns : List NodeId). Contains ns n) (sym (cuts-append t.worker before (t ∷ [])))
    (Contains-append_right (cuts_of t.worker before) (cuts_of t.worker (t ∷ [])) n
    (subst (λ (b : Bool). Contains (cond b (nodes_cut_of t.outcome) [] ++ []) n)
    (sym (eq-eqb t.worker t.worker refl)) (Contains-append_left (nodes_cut_of t.outcome) [] n c)))

-- ---- from a moment at which a node is reached

-- after these turns the node is reached, with its birth, or it was cut
pub data NodeFate (L : Layout) (turns : List Turn) (n : NodeId) : Type 0 where
  StaysIn : Reached (words_after L turns) n.slot → (node (words_after L turns) n.slot).birth ≡ n.birth
      → NodeFate L turns n
  WasCutOff : (w : ℕ) → Contains (cuts_of w turns) n → NodeFate L turns n

module _ (L : Layout) (turns : List Turn) (h : Headline L turns) (x : ℕ) (low : 6 ≤ x) (most : x ≤ L.nodes) where
  -- nobody stores in a node that is reached
  not_filled : (before late : List Turn) (t : Turn) → turns ≡ before ++ t ∷ late → Reached (words_after L before) x
      → (v : ℕ) → t.event ≡ Fill x Birth v → t.outcome ≡ Ok Filled → ⊥
  not_filled before late t are r v fills done =
      let one = h.places before (t ∷ late) are x low most in
      not_place t.worker r.path (one.only (InHands t.worker) (h.stores before late t x v Birth are fills done)
      ∙ sym (one.only (OnPath r.path) r.ends))

  module _ (before late : List Turn) (t : Turn) (are : turns ≡ before ++ t ∷ late)
      (r : Reached (words_after L before) x) (n : NodeId) (slot : n.slot ≡ x)
      (born : (node (words_after L before) x).birth ≡ n.birth) where
    next : words_after L (before ++ t ∷ []) ≡ after_turn (words_after L before) t
    next = words_push (opening L) before t

    same_birth : (node (words_after L (before ++ t ∷ [])) x).birth ≡ n.birth
    same_birth = ap (λ (m : Memory). birth m x) next
        ∙ (birth_kept (words_after L before) t.worker t.event t.outcome x (not_filled before late t are r) ∙ born)

    is_named : named (words_after L before) x ≡ n
    is_named = λ i. record { slot = sym slot i; birth = born i }

    cut_now : (Reached (words_after L (before ++ t ∷ [])) x → ⊥) → NodeFate L (before ++ t ∷ []) n
    cut_now gone =
        WasCutOff t.worker
        (now_cut before t n (subst (λ (k : NodeId). Contains (nodes_cut_of t.outcome) k) is_named
        (cut_is_named (words_after L before) t cuts x
        ((cuts.just x).0 (record {
          was = r;
          gone = λ after. gone
              (subst (λ (m : Memory). Reached m x) (sym next) after);
        })))))
      where
        cuts : CutsItsNodes (words_after L before) t
        cuts = h.cuts before late t are

    still_in : Reached (words_after L (before ++ t ∷ [])) x → NodeFate L (before ++ t ∷ []) n
    still_in now =
        StaysIn (subst (λ (y : ℕ). Reached (words_after L (before ++ t ∷ [])) y) (sym slot) now)
        (ap (birth (words_after L (before ++ t ∷ []))) slot ∙ same_birth)

    fate_next : NodeFate L (before ++ t ∷ []) n
    fate_next = by one.place one.here one.only
      where
        one : OnePlace L (before ++ t ∷ []) x
        one = h.places (before ++ t ∷ []) late (are ∙ sym (append_assoc before (t ∷ []) late)) x low most

        elsewhere : (p : Place) → ((there : Place) → StandsAt L (before ++ t ∷ []) x there → there ≡ p)
            → ((path : List Side) → ◌≡◌ {A = Place} (OnPath path) p → ⊥) → NodeFate L (before ++ t ∷ []) n
        elsewhere p only other = cut_now (λ a. other a.path (only (OnPath a.path) a.ends))

        by : (p : Place) → StandsAt L (before ++ t ∷ []) x p
            → ((there : Place) → StandsAt L (before ++ t ∷ []) x there → there ≡ p) → NodeFate L (before ++ t ∷ []) n
        by (OnPath path) here only = still_in (record
            { path = path; ends = here; is_slot = λ zero'. omega (arith, low, zero') })
        by InPool here only = elsewhere InPool only (λ path e. cc)
        by (InHands w) here only = elsewhere (InHands w) only (λ path e. cc)
        by (Waits w i) here only = elsewhere (Waits w i) only (λ path e. cc)

  step : (before late : List Turn) (t : Turn) → turns ≡ before ++ t ∷ late → (n : NodeId) → n.slot ≡ x
      → NodeFate L before n → NodeFate L (before ++ t ∷ []) n
  step before late t are n slot (WasCutOff w c) = WasCutOff w
      (subst (λ (ns : List NodeId). Contains ns n) (sym (cuts-append w before (t ∷ [])))
      (Contains-append_left (cuts_of w before) (cuts_of w (t ∷ [])) n c))
  step before late t are n slot (StaysIn r born) = fate_next before late t are
      (subst (λ (y : ℕ). Reached (words_after L before) y) slot r) n slot
      (ap (birth (words_after L before)) (sym slot) ∙ born)

  go : (done todo late : List Turn) → turns ≡ (done ++ todo) ++ late → (n : NodeId) → n.slot ≡ x → NodeFate L done n
      → NodeFate L (done ++ todo) n
  go done [] late are n slot f = subst (λ (ts : List Turn). NodeFate L ts n) (sym (append-nil done)) f
  go done (t ∷ ts) late are n slot f =
      let next : (done ++ t ∷ []) ++ ts ≡ done ++ t ∷ ts = append_assoc done (t ∷ []) ts in
      subst (λ (us : List Turn). NodeFate L us n) next
      (go (done ++ t ∷ []) ts late (are ∙ ap (λ (us : List Turn). us ++ late) (sym next)) n slot
      (step done (ts ++ late) t (are ∙ append_assoc done (t ∷ ts) late) n slot f))

  -- the node that was reached at a moment, at a later one
  pub node_fate_then : (so_far mid late : List Turn) → turns ≡ (so_far ++ mid) ++ late
      → Reached (words_after L so_far) x → NodeFate L (so_far ++ mid) (named (words_after L so_far) x)
  node_fate_then so_far mid late are r = go so_far mid late are (named (words_after L so_far) x) refl (StaysIn r refl)

  -- and after all turns
  pub node_fate : (so_far rest : List Turn) → turns ≡ so_far ++ rest → Reached (words_after L so_far) x
      → NodeFate L turns (named (words_after L so_far) x)
  node_fate so_far rest are r = subst (λ (ts : List Turn). NodeFate L ts (named (words_after L so_far) x)) (sym are)
      (node_fate_then so_far rest [] (are ∙ sym (append-nil (so_far ++ rest))) r)
