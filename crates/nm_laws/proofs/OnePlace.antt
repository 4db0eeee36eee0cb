-- Each slot has one place.
use Rattle.std.proofs.Common.{◌≡◌, ℕ, refl, sym, ap, ◌∙◌}
use Rattle.std.specs.Prelude.{Option, Some, None, is_some, option_map, slice_get}
use Rattle.std.proofs.lemmas.Option.{none-some}
use Rattle.nm_model.specs.declared.ledger.Ledger.{Ledger}
use Rattle.nm_model.specs.Ledgers.{held, queue_of}
use Rattle.nm_model.specs.Places.{SlotPlace, slot_of, SlotStandsAt, OneSlotPlace, EachSlotInOnePlace}
use Rattle.nm_model.specs.Laws.{OfEachState}
use Rattle.nm_model.specs.Places.SlotPlace.{InPool, PrivateTo, OnPath, InQueue}
use Rattle.nm_model.specs.Runs.{State, of, start, after}
use Rattle.nm_laws.proofs.Holders.{Holders}
use Rattle.nm_laws.proofs.Pictures.{SeekRecord, Stands, Once}
use Rattle.nm_laws.proofs.Pictures.SeekRecord.{InPool as SpotInPool, PrivateTo as SpotPrivateTo, OnPath as SpotOnPath, InQueue as SpotInQueue}
use Rattle.nm_laws.proofs.Views.{picture}
use Rattle.nm_laws.proofs.Lawful.{IsLawful, lawful}

module _ (s : State) (h : ℕ → ℕ) (holders : Holders s h) (x : ℕ) where
  -- a seek_record, as the place where a state has it
  abbrev place_of : SeekRecord → SlotPlace
  place_of SpotInPool = InPool
  place_of (SpotPrivateTo w) = PrivateTo w
  place_of (SpotOnPath path) = OnPath path
  place_of (SpotInQueue o i) = InQueue (h o) o i

  there : (p : SeekRecord) → Stands (picture s h) x p → SlotStandsAt s x (place_of p)
  there SpotInPool is = is
  there (SpotPrivateTo w) is = is
  there (SpotOnPath path) is = is
  there (SpotInQueue o i) is = is

  -- what stands in a queue stands in the queue of its one holder
  holder_is : (w o i : ℕ) (l : Option Ledger) → held (of s w).ledgers o ≡ l
      → option_map slot_of (slice_get (queue_of l) i) ≡ Some x → w ≡ h o
  holder_is w o i None is at = absurd (none-some x at)
  holder_is w o i (Some l) is at = holders.only w o (ap is_some is)

  pub one_place : Once (picture s h) x → OneSlotPlace s x
  one_place once = record { place = place_of once.place; here = there once.place once.here; only = back }
    where
      back : (q : SlotPlace) → SlotStandsAt s x q → q ≡ place_of once.place
      back InPool is = ap place_of (once.only SpotInPool is)
      back (PrivateTo w) is = ap place_of (once.only (SpotPrivateTo w) is)
      back (OnPath path) is = ap place_of (once.only (SpotOnPath path) is)
      back (InQueue w o i) is =
          let here = holder_is w o i (held (of s w).ledgers o) refl is in
          ap (λ (y : ℕ). InQueue y o i) here ∙ ap place_of
          (once.only (SpotInQueue o i) (ap (λ (y : ℕ). option_map slot_of
          (slice_get (queue_of (held (of s y).ledgers o)) i)) (sym here) ∙ is))

pub lawful_places : (s : State) → IsLawful s → EachSlotInOnePlace s
lawful_places s l x some inside = one_place s l.holder l.law.holders x (l.law.tree.places x some inside)

pub each_slot_has_one_place : OfEachState EachSlotInOnePlace
each_slot_has_one_place L enough turns = lawful_places (after (start L) turns) (lawful L enough turns)
