-- At each moment each slot above the fixed ones is in one place, by the words and the turns.
use Rattle.std.proofs.Common.{◌≡◌, ℕ, zero, suc, ◌≤◌, inl, inr, Bool, List, [], ◌∷◌, map, refl, sym, ap, subst, ◌∙◌, arith}
use Rattle.std.specs.Prelude.{Option, Some, None, option_map, slice_get}
use Rattle.std.proofs.lemmas.Bool.{cases_lt}
use Rattle.std.proofs.lemmas.Option.{none-some}
use Rattle.nm_edge.specs.Layouts.{Layout, IsLayout}
use Rattle.nm_edge.specs.declared.node.NodeId.{NodeId}
use Rattle.nm_model.specs.declared.event.Event.{Event}
use Rattle.nm_model.specs.declared.trace.Turn.{Turn}
use Rattle.nm_model.specs.declared.ledger.Queued.{Queued}
use Rattle.nm_model.specs.declared.ledger.Ledger.{Ledger}
use Rattle.nm_model.specs.Memory.{Memory, in_pool}
use Rattle.nm_model.specs.Ledgers.{held, queue_of}
use Rattle.nm_model.specs.Laws.{node_in}
use Rattle.nm_model.specs.Paths.{at}
use Rattle.nm_model.specs.Places.{SlotPlace as LawPlace, slot_of, SlotStandsAt as LawStandsAt, OneSlotPlace as LawOnePlace}
use Rattle.nm_model.specs.Places.SlotPlace.{InPool as LawInPool, PrivateTo as LawPrivateTo, OnPath as LawOnPath, InQueue as LawInQueue}
use Rattle.nm_model.specs.Runs.{State, of}
use Rattle.nm_model.specs.Ordered.{opening_of, after_in, trace_in}
use Rattle.nm_laws.proofs.OnePlace.{lawful_places}
use Rattle.nm_laws.proofs.Configurations.{opening_state}
use Rattle.nm_model.specs.Headline.{waits_of, words_after, Place, StandsAt, OnePlace}
use Rattle.nm_model.specs.Headline.Place.{InPool, InHands, OnPath, Waits}
use Rattle.nm_theorem.proofs.Runs.{lawful_opening, lawful_after, layout_after}
use Rattle.nm_theorem.proofs.WrittenWords.{run_words}
use Rattle.nm_theorem.proofs.FreedOfRuns.{holds, past_waits, waits_is}
use Rattle.nm_theorem.proofs.Hands.{run_hands}

slot_in : NodeId → ℕ
slot_in n = n.slot

-- the slot at an index of a queue, by its nodes
queued_slot : (q : List Queued) (i : ℕ) → option_map slot_in (slice_get (map node_in q) i)
    ≡ option_map slot_of (slice_get q i)
unfolding slot_in
queued_slot [] i = refl
queued_slot (e ∷ q) zero = refl
queued_slot (e ∷ q) (suc i) = queued_slot q i

module _ (L : Layout) (fits : IsLayout L) (b : Bool) (ts : List (ℕ × Event)) (x : ℕ) where
  abbrev turns : List Turn
  turns = trace_in (opening_of L b) ts

  abbrev end : State
  end = (after_in (opening_of L b) ts).state

  same_words : words_after L turns ≡ end.memory
  same_words = run_words L fits b ts

  -- a place of the laws, as the page has it
  abbrev place_of : LawPlace → Place
  place_of LawInPool = InPool
  place_of (LawPrivateTo w) = InHands w
  place_of (LawOnPath path) = OnPath path
  place_of (LawInQueue w o i) = Waits o i

  waiting : (w o i : ℕ) (l : Ledger) → held (of end w).ledgers o ≡ Some l
      → option_map slot_in (slice_get (waits_of o turns) i)
      ≡ option_map slot_of (slice_get (queue_of (held (of end w).ledgers o)) i)
  waiting w o i l is = ap (λ (ns : List NodeId). option_map slot_in (slice_get ns i)) (waits_is L fits b ts w o l is)
      ∙ (queued_slot l.queue i ∙ ap (λ (y : Option Ledger). option_map slot_of (slice_get (queue_of y) i)) (sym is))

  there : (p : LawPlace) → LawStandsAt end x p → StandsAt L turns x (place_of p)
  unfolding slot_in
  there LawInPool is = ap (λ (m : Memory). in_pool m x) same_words ∙ is
  there (LawPrivateTo w) is = run_hands w x L fits b ts ∙ is
  there (LawOnPath path) is = ap (λ (m : Memory). at m path) same_words ∙ is
  there (LawInQueue w o i) is = go (held (of end w).ledgers o) refl is
    where
      go : (y : Option Ledger) → held (of end w).ledgers o ≡ y
          → option_map slot_of (slice_get (queue_of y) i) ≡ Some x
          → option_map slot_in (slice_get (waits_of o turns) i) ≡ Some x
      go None held none = absurd (none-some x none)
      go (Some l) held at = waiting w o i l held ∙ is

  module _ (only : (p q : LawPlace) → LawStandsAt end x p → LawStandsAt end x q → p ≡ q) where
    back : (p : LawPlace) → LawStandsAt end x p → (q : Place) → StandsAt L turns x q → q ≡ place_of p
    unfolding slot_in
    back p here InPool is = ap place_of (only LawInPool p (ap (λ (m : Memory). in_pool m x) (sym same_words) ∙ is) here)
    back p here (InHands w) is = ap place_of (only (LawPrivateTo w) p (sym (run_hands w x L fits b ts) ∙ is) here)
    back p here (OnPath path) is = ap place_of (only (LawOnPath path) p
        (ap (λ (m : Memory). at m path) (sym same_words) ∙ is) here)
    back p here (Waits o i) is = elim (cases_lt o L.workers) [
      | inr past ↦ absurd (none-some x (ap (λ (ns : List NodeId). option_map slot_in (slice_get ns i))
          (sym (past_waits L fits b ts o past)) ∙ is))
      | inl below ↦
          let h = holds L fits b ts o below in
          ap place_of (only (LawInQueue h.holder o i) p (sym (waiting h.holder o i h.ledger h.is_held) ∙ is) here)
    ]

  pub one_place : 6 ≤ x → x ≤ L.nodes → OnePlace L turns x
  one_place least most = record {
    place = place_of one.place;
    here = there one.place one.here;
    only = back
        (λ p q a d. one.only p a ∙ sym (one.only q d)) one.place one.here;
  }
    where
      same : end.layout ≡ L
      same = layout_after ts (opening_of L b) ∙ ap (λ (s : State). s.layout) (opening_state L b)

      one : LawOnePlace end x
      one = lawful_places end (lawful_after ts (opening_of L b) (lawful_opening L fits b)) x
          (λ z. absurd (omega (arith, z, least))) (subst (λ (M : Layout). x ≤ M.nodes) (sym same) most)
