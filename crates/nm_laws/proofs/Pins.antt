-- Pins stay near the epoch, in every run and in every state that can be reached.
use Rattle.std.proofs.Common.{◌≡◌, ℕ, ◌+◌, ◌≤◌, ◌⊎◌, inl, inr, false, List, subst, arith}
use Rattle.std.proofs.lemmas.Bool.{cases_lt, cases_order}
use Rattle.std.proofs.lemmas.List.{get_or_past, length-replicate}
use Rattle.std.proofs.lemmas.List.FromFn.{get_or-map-range_with_len, length-map-range_with_len}
use Rattle.std.proofs.lemmas.Option.{none-some}
use Rattle.std.specs.Prelude.{None}
use Rattle.nm_edge.specs.Layouts.{Layout}
use Rattle.nm_model.specs.declared.event.Event.{Event}
use Rattle.nm_model.specs.Knowledge.{newcomer}
use Rattle.nm_model.specs.Runs.{State, of, start, after}
use Rattle.nm_laws.proofs.Reaches.{IsReachable}
use Rattle.nm_model.specs.Laws.{PinsAreNear, PinsStayNear}
use Rattle.nm_model.proofs.Numbers.{repeated}
use Rattle.nm_laws.proofs.Steps.{by_steps}
use Rattle.nm_laws.proofs.Sizes.{Staffed, staffed_step, staffed_start}
use Rattle.nm_laws.proofs.Epochs.{EpochLaw, epoch_step}

-- at first everybody is a newcomer
pub all_new : (L : Layout) (w : ℕ) → of (start L) w ≡ newcomer L w
all_new L w = elim (cases_lt w L.workers) [
  | inl below ↦ get_or-map-range_with_len (newcomer L) 0 L.workers w w (newcomer L w) below (omega arith)
  | inr past ↦ get_or_past _ w (newcomer L w) (let e = length-map-range_with_len (newcomer L) 0 L.workers in
      omega arith)
]

pub epoch_start : (L : Layout) → EpochLaw (start L)
epoch_start L = record {
  announced = λ w. rw (all_new L w) (repeated L.workers w None);
  noted = λ w. rw (all_new L w) (λ e is. absurd (none-some e is));
  pins = λ w. rw (all_new L w) (λ e is. absurd (none-some e is));
  sights = λ w. rw (all_new L w) (λ e is. absurd (none-some e is));
  scans = λ w. rw (all_new L w) (λ u e is. absurd (none-some 0 is));
  marks = λ w. rw (all_new L w) (length-replicate L.workers false);
}

-- the epochs of a state, with the lengths of its lists
pub record Timely (s : State) : Type 0 where
  pub staffed : Staffed s
  pub epochs : EpochLaw s

pub timely : (L : Layout) (turns : List (ℕ × Event)) → Timely (after (start L) turns)
timely L turns = by_steps Timely
    (λ s w e t ok. record { staffed = staffed_step s w e t.staffed; epochs = epoch_step s w e t.staffed t.epochs ok })
    turns (start L) (record { staffed = staffed_start L; epochs = epoch_start L })

near : (n e : ℕ) → e ≤ n → n ≤ e + 1 → (n ≡ e) ⊎ (n ≡ e + 1)
near n e low high = elim (cases_order n e) [
  | inl here ↦ inl here
  | inr more ↦ elim more [ inl below ↦ absurd (omega arith) | inr above ↦ inr (omega arith) ]
]

pub pins_stay_near : PinsStayNear
pins_stay_near L turns w e pin = let h = (timely L turns).epochs.pins w e pin in near _ e h.0 h.1

-- the same of a state that can be reached
pub reachable_pins_are_near : (s : State) → IsReachable s → PinsAreNear s
reachable_pins_are_near s r = subst (λ (t : State). PinsAreNear t) r.leads (pins_stay_near s.layout r.events)
