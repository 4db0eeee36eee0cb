-- Which answers a call's log allows, and what a label leaves.
use Rattle.std.proofs.Common.{◌≡◌, ◌≢◌, inl, inr, ℕ, ◌==◌, Bool, true, false, not, ◌||◌, refl, ap, ◌∙◌}
use Rattle.std.specs.Prelude.{Option, is_none}
use Rattle.std.specs.List.{list_any}
use Rattle.std.proofs.lemmas.Bool.{and_from, eq-eqb, ne_eqb}
use Rattle.nm_edge.specs.declared.node.NodeId.{NodeId}
use Rattle.nm_model.specs.declared.event.Event.TheVariants.{LeaveWith}
use Rattle.nm_model.specs.declared.event.Op.{Op}
use Rattle.nm_model.specs.declared.event.Op.TheVariants.{Has, Insert, Delete}
use Rattle.nm_model.specs.declared.arrivals.Call.{Call}
use Rattle.nm_model.specs.Maps.{is_number}
use Rattle.nm_model.specs.Ordered.{ended_at, ended_beside, ended_elsewhere, has_removed, shows, shows_call}
use Rattle.nm_model.specs.Step.{refusal}
use Rattle.nm_order.specs.Facts.Since.{ThePin, TheFlag}
use Rattle.nm_order.proofs.ArrivalsOfLooks.{any_there}
use Rattle.nm_steps.specs.Steps.{PassView, MayStep}
use Rattle.nm_epoch.specs.Resting.{epochs, search}
use Rattle.nm_epoch.proofs.Allowed.{passes}
use Rattle.nm_calls.specs.Leaving.{EndedWith, ShowsAnswer, IsItsAnswer}

-- ---- answers

right_true : (a b : Bool) → b ≡ true → (a || b) ≡ true
right_true true b is = refl
right_true false b is = is

module _ (p : PassView) (k : ℕ) where
  at_key : (leaf : ℕ) → EndedWith p ThePin k leaf k → list_any (ended_at k) (search p).walks ≡ true
  at_key leaf e = let a = e.2.0 in
      any_there (ended_at k) (search p).walks a.arrival a.among
      (and_from a.arrival.ended (is_number a.arrival.key k) e.2.2
      (ap (λ (o : Option ℕ). is_number o k) e.2.1 ∙ eq-eqb k k refl))

  beside_key : (leaf v : ℕ) → v ≢ k → EndedWith p ThePin k leaf v → list_any (ended_beside k) (search p).walks ≡ true
  beside_key leaf v ne e = let a = e.2.0 in
      any_there (ended_beside k) (search p).walks a.arrival a.among
      (and_from a.arrival.ended (not (is_number a.arrival.key k)) e.2.2
      (ap not (ap (λ (o : Option ℕ). is_number o k) e.2.1 ∙ ne_eqb v k ne)))

  elsewhere : (slot leaf v : ℕ) → leaf ≢ slot → EndedWith p TheFlag k leaf v
      → list_any (ended_elsewhere slot) (search p).later ≡ true
  elsewhere slot leaf v ne e = let a = e.2.0 in
      any_there (ended_elsewhere slot) (search p).later a.arrival a.among
      (and_from a.arrival.ended (not (a.arrival.slot == slot)) e.2.2
      (ap not (ap (λ (n : ℕ). n == slot) a.is_slot ∙ ne_eqb leaf slot ne)))

  shown : (op : Op) (b : Bool) → ShowsAnswer p op k b → shows (search p) op k b ≡ true
  shown Has true s = at_key s.0 s.1
  shown Has false s = beside_key s.0 s.1 s.2 s.3
  shown Insert true s = s
  shown Insert false s = and_from (list_any (ended_at k) (search p).walks) (not (search p).linked)
      (at_key s.0.0 s.0.1) (ap not s.1)
  shown Delete true s = ap (λ (o : Option NodeId). has_removed (search p) o) s.1 ∙ elim s.2 [
    | inl cut ↦ ap (λ (b : Bool). b || list_any (ended_elsewhere s.0.slot) (search p).later) cut
    | inr other ↦ right_true (search p).cut (list_any (ended_elsewhere s.0.slot) (search p).later)
        (elsewhere s.0.slot other.0 other.1 other.2 other.3)
  ]
  shown Delete false s = and_from (list_any (ended_beside k) (search p).walks) (is_none (search p).flagged)
      (beside_key s.0.0 s.0.1 s.0.2 s.0.3) (ap is_none s.1)

pub may_answer_so : (p : PassView) (answer : Bool) → (epochs p).unlabelled ≡ false → IsItsAnswer p answer
    → MayStep p (LeaveWith answer)
unfolding refusal
may_answer_so p answer labelled is = record {
  looked = tt;
  allowed = λ m h. passes _ _ labelled;
  ordered = passes _ _ (ap not (ap (λ (o : Option Call). shows_call (search p) o answer) is.2
      ∙ shown p is.1 is.0 answer is.3));
  births = tt;
  key = tt;
}
