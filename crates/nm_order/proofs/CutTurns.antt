-- What one turn of an ordered run does to a reached slot: it is reached still, or the turn cuts it
-- and names it in its reply.
use Rattle.std.proofs.Common.{◌≡◌, ◌≢◌, ℕ, zero, suc, ◌≤◌, inl, inr, ◌⊎◌, Bool, true, false, List, [], ◌∷◌, map, refl, sym, ap, subst, ◌∙◌, arith, true≢false}
use Rattle.std.specs.Prelude.{Option, Some, None, Result, Ok, Err, slice_get, Contains, ◌↔◌}
use Rattle.std.proofs.lemmas.Option.{none-some, same_Some, slice_get-get_or, slice_get_within, get_or_from_slice_get}
use Rattle.nm_edge.specs.Layouts.{Layout}
use Rattle.nm_edge.specs.declared.edge.Side.{Side}
use Rattle.nm_edge.specs.declared.node.NodeId.{NodeId}
use Rattle.nm_model.specs.declared.event.Event.{Event}
use Rattle.nm_model.specs.declared.event.Event.TheVariants.{Splice, Swap}
use Rattle.nm_model.specs.declared.reply.Reply.{Reply}
use Rattle.nm_model.specs.declared.reply.Reply.TheVariants.{Cut}
use Rattle.nm_model.specs.declared.reply.Refused.{Refused}
use Rattle.nm_model.specs.Memory.{named}
use Rattle.nm_model.specs.Paths.{Reached, IsCut}
use Rattle.nm_model.specs.Places.{SlotPlace, SlotStandsAt, OneSlotPlace}
use Rattle.nm_model.specs.Places.SlotPlace.{InPool, PrivateTo, OnPath, InQueue}
use Rattle.nm_model.specs.Laws.{slots_of}
use Rattle.nm_model.specs.Runs.{State, start, after, next, outcome}
use Rattle.nm_model.specs.Ordered.{Configuration, refused_in, next_in, outcome_in}
use Rattle.nm_order.specs.Intervals.{HasKey}
use Rattle.nm_order.specs.Removals.{is_splice}
use Rattle.nm_laws.proofs.Pictures.{within_path}
use Rattle.nm_laws.proofs.Views.{picture}
use Rattle.nm_laws.proofs.OnePlace.{each_slot_has_one_place}
use Rattle.nm_laws.proofs.Stays.{IsSplice, SpliceOrSwap, nothing_else_cuts, only_splices_answer_cuts}
use Rattle.nm_laws.proofs.Cuts.{cuts_just, cuts_name_births, swaps_cut_just, swaps_name_births}
use Rattle.nm_laws.proofs.SplicedEdges.{IsFrozenChain, cuts_go_down}
use Rattle.nm_laws.proofs.Configurations.{refused_next, refused_outcome, allowed_state, allowed_outcome, state_outcome}
use Rattle.nm_laws.proofs.Outcomes.{same_reply, no_reply}
use Rattle.nm_laws.proofs.Retired.{layout_after}
use Rattle.nm_order.proofs.OrderedLaws.{IsOrdered, ordered_next, law_of_state}

-- ---- replies

abbrev pub is_cut : Reply → Bool
is_cut (Cut ns) = true
is_cut _ = false

pub splice_of : (e : Event) → is_splice e ≡ true → IsSplice e
splice_of (Splice a side s p keep) h = (a, side, s, p, keep, refl)
splice_of e h = absurd (true≢false (sym h))

pub cut_shown : (r : Reply) → is_cut r ≡ true → (ns : List NodeId) × (r ≡ Cut ns)
cut_shown (Cut ns) h = (ns, refl)
cut_shown r h = absurd (true≢false (sym h))

-- ---- lists

mapped : {X Y : Type 0} (f : X → Y) (xs : List X) (i : ℕ) (x : X) → slice_get xs i ≡ Some x
    → slice_get (map f xs) i ≡ Some (f x)
mapped f [] i x at = absurd (none-some x at)
mapped f (y ∷ xs) zero x at = ap Some (ap f (same_Some y x at))
mapped f (y ∷ xs) (suc i) x at = mapped f xs i x at

pub mapped_among : {X Y : Type 0} (f : X → Y) (xs : List X) (x : X) → Contains xs x → Contains (map f xs) (f x)
mapped_among f xs x c =
    let at = mapped f xs c.0 x (slice_get-get_or xs c.0 x c.1 ∙ ap Some c.2) in
    (c.0, slice_get_within (map f xs) c.0 (f x) at, get_or_from_slice_get (map f xs) c.0 (f x) (f x) at)

module _ (L : Layout) (enough : 5 ≤ L.nodes) where
  module _ (c : Configuration) (o : IsOrdered L c) where
    pub layout_is : c.state.layout ≡ L
    layout_is = ap (λ (s : State). s.layout) o.leads ∙ layout_after L o.events

    pub reached_inside : (x : ℕ) → Reached c.state.memory x → x ≤ L.nodes
    reached_inside x r =
        let l = law_of_state L enough c o in
        subst (λ (m : Layout). x ≤ m.nodes) layout_is
        (subst (λ (y : ℕ). y ≤ c.state.layout.nodes) r.ends
        (within_path c.state.layout.nodes (picture c.state l.0) l.1.tree 1 r.path
        (let room = l.1.tree.room in omega arith)))

    -- a slot is reached, or it is not
    pub reached_or : (x : ℕ) → x ≢ 0 → x ≤ L.nodes → Reached c.state.memory x ⊎ (Reached c.state.memory x → ⊥)
    reached_or x some inside = by one.place refl one.here
      where
        one : OneSlotPlace c.state x
        one = subst (λ (s : State). x ≤ s.layout.nodes → OneSlotPlace s x) (sym o.leads)
            (each_slot_has_one_place L enough o.events x some)
            (subst (λ (m : Layout). x ≤ m.nodes) (sym layout_is) inside)

        by : (p : SlotPlace) → one.place ≡ p → SlotStandsAt c.state x one.place
            → Reached c.state.memory x ⊎ (Reached c.state.memory x → ⊥)
        by (OnPath path) is here = inl (record {
          path = path;
          ends = subst (SlotStandsAt c.state x) is here;
          is_slot = some;
        })
        by InPool is here = inr (λ r. differ (one.only (OnPath r.path) r.ends ∙ is))
          where
            differ : {q : List Side} → OnPath q ≡ InPool → ⊥
            differ e = cc
        by (PrivateTo w) is here = inr (λ r. differ (one.only (OnPath r.path) r.ends ∙ is))
          where
            differ : {q : List Side} → OnPath q ≡ PrivateTo w → ⊥
            differ e = cc
        by (InQueue w f i) is here = inr (λ r. differ (one.only (OnPath r.path) r.ends ∙ is))
          where
            differ : {q : List Side} → OnPath q ≡ InQueue w f i → ⊥
            differ e = cc

  -- what a turn does to a reached slot
  pub data CutOrNot (c : Configuration) (t : ℕ × Event) (x : ℕ) : Type 0 where
    StaysReached : Reached (next_in c t).state.memory x → CutOrNot c t x
    IsCutNow : (ns : List NodeId) → outcome_in c t ≡ Ok (Cut ns) → Contains ns (named c.state.memory x)
        → (Reached (next_in c t).state.memory x → ⊥) → CutOrNot c t x

  -- of a splice that is won: what it cuts, and the births that it names
  pub cut_shows : (c : Configuration) (t : ℕ × Event) → IsOrdered L c → (ns : List NodeId)
      → outcome_in c t ≡ Ok (Cut ns)
      → ((x : ℕ) → IsCut c.state.memory (next_in c t).state.memory x ↔ Contains (slots_of ns) x)
      × (ns ≡ map (named c.state.memory) (slots_of ns))
  cut_shows c t o ns is = go (refused_in c t.0 t.1) refl
    where
      Shows : State → State → Type 0
      Shows s s' = ((x : ℕ) → IsCut s.memory s'.memory x ↔ Contains (slots_of ns) x)
          × (ns ≡ map (named s.memory) (slots_of ns))

      by : outcome (after (start L) o.events) t ≡ Ok (Cut ns)
          → Shows (after (start L) o.events) (next (after (start L) o.events) t)
      by is = on (only_splices_answer_cuts L enough o.events t ns is)
        where
          on : SpliceOrSwap t.1 → Shows (after (start L) o.events) (next (after (start L) o.events) t)
          on (inl e) =
              let turn : t ≡ (t.0, Splice e.0 e.1 e.2 e.3 e.4) = λ i. (t.0, e.5 i) in
              let is' : outcome (after (start L) o.events) (t.0, Splice e.0 e.1 e.2 e.3 e.4) ≡ Ok (Cut ns) =
              ap (outcome (after (start L) o.events)) (sym turn) ∙ is in
              subst (λ (u : ℕ × Event). Shows (after (start L) o.events) (next (after (start L) o.events) u))
              (sym turn) (
                cuts_just L enough o.events t.0 e.0 e.1 e.2 e.3 e.4 ns is',
                cuts_name_births L enough o.events t.0 e.0 e.1 e.2 e.3 e.4 ns is',
              )
          on (inr e) =
              let turn : t ≡ (t.0, Swap e.0 e.1 e.2 e.3) = λ i. (t.0, e.4 i) in
              let is' : outcome (after (start L) o.events) (t.0, Swap e.0 e.1 e.2 e.3) ≡ Ok (Cut ns) =
              ap (outcome (after (start L) o.events)) (sym turn) ∙ is in
              subst (λ (u : ℕ × Event). Shows (after (start L) o.events) (next (after (start L) o.events) u))
              (sym turn) (
                swaps_cut_just L enough o.events t.0 e.0 e.1 e.2 e.3 ns is',
                swaps_name_births L enough o.events t.0 e.0 e.1 e.2 e.3 ns is',
              )

      go : (r : Option Refused) → refused_in c t.0 t.1 ≡ r → Shows c.state (next_in c t).state
      go (Some r) why = absurd (no_reply r (Cut ns) (sym (refused_outcome c t r why) ∙ is))
      go None why = subst (Shows c.state) (allowed_state c t why)
          (subst (λ (s : State). outcome s t ≡ Ok (Cut ns) → Shows s (next s t)) (sym o.leads) by
          (state_outcome c t why ∙ (sym (allowed_outcome c t why) ∙ is)))

  -- and that its nodes go down a frozen chain
  pub cut_goes_down : (c : Configuration) (t : ℕ × Event) → IsOrdered L c → (ns : List NodeId) → IsSplice t.1
      → outcome_in c t ≡ Ok (Cut ns) → (s : ℕ) × IsFrozenChain c.state.memory s (slots_of ns)
  cut_goes_down c t o ns e is = go (refused_in c t.0 t.1) refl
    where
      by : outcome (after (start L) o.events) t ≡ Ok (Cut ns)
          → (s : ℕ) × IsFrozenChain (after (start L) o.events).memory s (slots_of ns)
      by is =
          let turn : t ≡ (t.0, Splice e.0 e.1 e.2 e.3 e.4) = λ i. (t.0, e.5 i) in (
            e.2,
            cuts_go_down L enough o.events t.0 e.0 e.1 e.2 e.3 e.4 ns
                (ap (outcome (after (start L) o.events)) (sym turn) ∙ is),
          )

      go : (r : Option Refused) → refused_in c t.0 t.1 ≡ r → (s : ℕ) × IsFrozenChain c.state.memory s (slots_of ns)
      go (Some r) why = absurd (no_reply r (Cut ns) (sym (refused_outcome c t r why) ∙ is))
      go None why = subst (λ (s : State). outcome s t ≡ Ok (Cut ns)
          → (x : ℕ) × IsFrozenChain s.memory x (slots_of ns)) (sym o.leads) by
          (state_outcome c t why ∙ (sym (allowed_outcome c t why) ∙ is))

  -- that it is a splice, or a swap
  pub cut_is : (c : Configuration) (t : ℕ × Event) → IsOrdered L c → (ns : List NodeId) → outcome_in c t ≡ Ok (Cut ns)
      → SpliceOrSwap t.1
  cut_is c t o ns is = go (refused_in c t.0 t.1) refl
    where
      go : (r : Option Refused) → refused_in c t.0 t.1 ≡ r → SpliceOrSwap t.1
      go (Some r) why = absurd (no_reply r (Cut ns) (sym (refused_outcome c t r why) ∙ is))
      go None why = only_splices_answer_cuts L enough o.events t ns
          (ap (λ (s : State). outcome s t) (sym o.leads)
          ∙ (state_outcome c t why ∙ (sym (allowed_outcome c t why) ∙ is)))

  -- each node that a cut names has the birth of its slot
  pub named_so : (c : Configuration) (t : ℕ × Event) → IsOrdered L c → (ns : List NodeId)
      → outcome_in c t ≡ Ok (Cut ns) → (n : NodeId) → Contains ns n → named c.state.memory n.slot ≡ n
  named_so c t o ns is n among = same_Some (named c.state.memory n.slot) n
      (sym there ∙ (ap (λ (l : List NodeId). slice_get l among.0) (sym (cut_shows c t o ns is).1) ∙ at))
    where
      at : slice_get ns among.0 ≡ Some n
      at = slice_get-get_or ns among.0 n among.1 ∙ ap Some among.2

      there : slice_get (map (named c.state.memory) (slots_of ns)) among.0 ≡ Some (named c.state.memory n.slot)
      there = mapped (named c.state.memory) (slots_of ns) among.0 n.slot
          (mapped (λ (y : NodeId). y.slot) ns among.0 n at)

  -- a turn that answers no cut leaves each reached slot reached
  pub uncut_stays : (c : Configuration) (t : ℕ × Event) → IsOrdered L c
      → ((ns : List NodeId) → outcome_in c t ≡ Ok (Cut ns) → ⊥) → (x : ℕ) → Reached c.state.memory x
      → Reached (next_in c t).state.memory x
  uncut_stays c t o uncut x r = go (refused_in c t.0 t.1) refl
    where
      go : (q : Option Refused) → refused_in c t.0 t.1 ≡ q → Reached (next_in c t).state.memory x
      go (Some q) why = subst (λ (d : Configuration). Reached d.state.memory x) (sym (refused_next c t q why)) r
      go None why = subst (λ (s : State). Reached s.memory x) (allowed_state c t why)
          (subst (λ (s : State). ((ns : List NodeId) → outcome s t ≡ Ok (Cut ns) → ⊥) → Reached s.memory x
          → Reached (next s t).memory x) (sym o.leads)
          (λ none was. nothing_else_cuts L enough o.events t none x was)
          (λ ns is. uncut ns (allowed_outcome c t why ∙ (sym (state_outcome c t why) ∙ is))) r)

  pub cut_or_not : (c : Configuration) (t : ℕ × Event) → HasKey t.1 → IsOrdered L c → (x : ℕ)
      → Reached c.state.memory x → CutOrNot c t x
  cut_or_not c t has o x r = elim (reached_or (next_in c t) (ordered_next L enough c t has o) x r.is_slot
      (reached_inside c o x r)) [
        | inl still ↦ StaysReached still
        | inr gone ↦ by (outcome_in c t) refl gone
      ]
    where
      by : (q : Result Reply Refused) → outcome_in c t ≡ q → (Reached (next_in c t).state.memory x → ⊥) → CutOrNot c t x
      by (Err q) is gone = absurd (gone (uncut_stays c t o (λ ns cut. differ ns (sym is ∙ cut)) x r))
        where
          differ : (ns : List NodeId) → ◌≡◌ {A = Result Reply Refused} (Err q) (Ok (Cut ns)) → ⊥
          differ ns e = cc
      by (Ok q) is gone = on (is_cut q) refl
        where
          on : (b : Bool) → is_cut q ≡ b → CutOrNot c t x
          on false other = absurd (gone (uncut_stays c t o
              (λ ns cut. true≢false (ap is_cut (same_reply (Cut ns) q (sym cut ∙ is)) ∙ other)) x r))
          on true cut =
              let ns = cut_shown q cut in
              let shows = cut_shows c t o ns.0 (is ∙ ap (λ (y : Reply). Ok y) ns.1) in
              IsCutNow ns.0 (is ∙ ap (λ (y : Reply). Ok y) ns.1)
              (subst (λ (l : List NodeId). Contains l (named c.state.memory x)) (sym shows.1)
              (mapped_among (named c.state.memory) (slots_of ns.0) x
              ((shows.0 x).0 (record { was = r; gone = gone })))) gone
