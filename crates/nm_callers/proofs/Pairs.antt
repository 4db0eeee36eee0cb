-- Two workers that are all there are, of which neither has flagged a leaf: what one inserts the
-- other one finds, once it was told; over the page alone.
use Rattle.std.proofs.Common.{◌≡◌, ◌≢◌, ℕ, ◌<◌, Bool, true, List, [], ◌++◌, append_assoc, append-nil, sym, ap, subst, ◌∙◌, arith}
use Rattle.std.specs.Prelude.{None, Ok}
use native.Mathlib.Decide.{ℕ_discrete}
use Rattle.std.proofs.lemmas.List.{append_cancel_left}
use Rattle.nm_edge.specs.Layouts.{Layout}
use Rattle.nm_laws.proofs.ListOrders.{In, in_left}
use Rattle.nm_model.specs.declared.event.Op.TheVariants.{Has, Insert, Delete}
use Rattle.nm_model.specs.declared.trace.Turn.{Turn}
use Rattle.nm_model.specs.Walks.{Entry}
use Rattle.nm_order.specs.Logs.{part_of}
use Rattle.nm_order.specs.WalksToArrivals.{is_won_flag}
use Rattle.nm_order.proofs.AnswersSince.{part-append}
use Rattle.nm_model.specs.Histories.{call_begun}
use Rattle.nm_steps.specs.Rules.{Extends}
use Rattle.nm_steps.specs.Steps.{PassView, HasHeard, HasSeenAllOf}
use Rattle.nm_steps.proofs.Growing.{goes_on_through}
use Rattle.nm_calls.specs.Moments.{AnswerHasMoment}
use Rattle.nm_walks.specs.WonCounts.{won_flags}
use Rattle.nm_tree.specs.Running.{HasSeenTurns, WinsIn}
use Rattle.nm_tree.proofs.JoinsAlone.{told_in_part}
use Rattle.nm_tree.proofs.TurnTotals.{wins_flags}
use Rattle.nm_tree.proofs.Taking.{moment_since}
use Rattle.nm_callers.specs.Meanwhile.{NoneDeleted}
use Rattle.nm_callers.proofs.ToldWorkers.{told_so}
use Rattle.nm_callers.proofs.TwoAnswers.{inserted_then_found}
use Rattle.nm_callers.proofs.Unmade.{answered_none, answers_below, no_call_then, none_won, unmade, won_still}

of_two : (w x y : ℕ) → w < 2 → x < 2 → y < 2 → x ≢ y → (P : ℕ → Type 0) → P x → P y → P w
of_two w x y a b c differ P p q = elim (ℕ_discrete w x) [
  | yes same ↦ subst P (sym same) p
  | no other ↦ elim (ℕ_discrete w y) [
    | yes same ↦ subst P (sym same) q
    | no neither' ↦ absurd (omega (arith, other, neither', differ, a, b, c))
  ]
]

no_look : Delete ≡ Has → ⊥
no_look is = absurd (cc)

-- one has inserted the key, from start on; two was told, as before, and has looked it up, as after;
-- and then one has heard what two had seen, as last
module _ (k : ℕ) (start one before after last : PassView) (workers : after.view.layout.workers ≡ 2)
    (layout : one.view.layout ≡ after.view.layout) (differ : one.view.number ≢ after.view.number)
    (inserted : AnswerHasMoment start one Insert k true) (answer : Bool)
    (looked : AnswerHasMoment before after Has k answer) (told : HasSeenAllOf before one)
    (grown : HasSeenAllOf after before) (heard : HasHeard one last) (knows : HasSeenAllOf last after)
    (first : HasSeenTurns one.view) (second : HasSeenTurns after.view) (third : HasSeenTurns last.view)
    (flags_one : won_flags one.view.log ≡ 0) (flags_two : won_flags after.view.log ≡ 0) where
  abbrev L : Layout
  L = after.view.layout

  later : Extends after.view.past one.view.past
  later = goes_on_through after.view.past before.view.past one.view.past grown.goes_on told.goes_on

  number_two : after.view.number < 2
  number_two = subst (λ (n : ℕ). after.view.number < n) workers
      (answers_below L before.view.past after.view.past after.view.number Has k answer looked second.workers)

  number_one : one.view.number < 2
  number_one = subst (λ (n : ℕ). one.view.number < n) workers
      (subst (λ (l : Layout). one.view.number < l.workers) layout
      (answers_below one.view.layout start.view.past one.view.past one.view.number Insert k true inserted
      first.workers))

  -- its part of what it has seen at last is what it had done
  own : part_of one.view.number last.view.past ≡ one.view.log
  own = ap (λ (n : ℕ). part_of n last.view.past) (sym (ap (λ (p : PassView). p.view.number) heard))
      ∙ (third.own ∙ ap (λ (p : PassView). p.view.log) heard)

  whole : last.view.past ≡ one.view.past ++ (later.more ++ knows.goes_on.more)
  whole = knows.goes_on.is ∙ (ap (λ (ts : List Turn). ts ++ knows.goes_on.more) later.is
      ∙ append_assoc one.view.past later.more knows.goes_on.more)

  nothing : part_of one.view.number (later.more ++ knows.goes_on.more) ≡ []
  nothing = append_cancel_left one.view.log (part_of one.view.number (later.more ++ knows.goes_on.more)) []
      (ap (λ (es : List Entry). es ++ part_of one.view.number (later.more ++ knows.goes_on.more)) (sym first.own)
      ∙ (sym (part-append one.view.number one.view.past (later.more ++ knows.goes_on.more))
      ∙ (ap (part_of one.view.number) (sym whole) ∙ (own ∙ sym (append-nil one.view.log)))))

  rests : call_begun one.view.number after.view.past ≡ None
  rests = ap (call_begun one.view.number) later.is
      ∙ no_call_then one.view.number one.view.past later.more
      (answered_none one.view.layout start.view.past one.view.past one.view.number Insert k true inserted)
      (λ t r there mine is. absurd (subst (λ (es : List Entry). In es (t.event, r)) nothing
      (told_in_part one.view.number (later.more ++ knows.goes_on.more) t r
      (in_left later.more knows.goes_on.more t there) mine is)))

  flagged : (w : ℕ) → w < L.workers → WinsIn Delete w after.view.past → ⊥
  flagged w less = of_two w one.view.number after.view.number (subst (λ (n : ℕ). w < n) workers less) number_one
      number_two differ (λ u. WinsIn Delete u after.view.past → ⊥)
      (λ won. none_won Delete is_won_flag (λ e r. wins_flags e (Ok r)) one.view.number last.view.past
      (ap won_flags own ∙ flags_one)
      (subst (λ (ts : List Turn). WinsIn Delete one.view.number ts) (sym knows.goes_on.is)
      (won_still Delete one.view.number after.view.past knows.goes_on.more won)))
      (λ won. none_won Delete is_won_flag (λ e r. wins_flags e (Ok r)) after.view.number after.view.past
      (ap won_flags second.own ∙ flags_two) won)

  closed : (w : ℕ) → w < L.workers → call_begun w after.view.past ≡ None
  closed w less = of_two w one.view.number after.view.number (subst (λ (n : ℕ). w < n) workers less) number_one
      number_two differ (λ u. call_begun u after.view.past ≡ None) rests
      (answered_none L before.view.past after.view.past after.view.number Has k answer looked)

  none : NoneDeleted L start.view.past after.view.past k
  none acts h a among gone = absurd (unmade L after.view.past second.workers second.won Delete no_look flagged closed
      acts h a among gone.0 gone.2)

  pub found_alone : answer ≡ true
  found_alone = told_so NoneDeleted Insert true inserted_then_found k start one after layout
      (record { goes_on = later }) answer (moment_since one before after Has k answer told looked) inserted none
