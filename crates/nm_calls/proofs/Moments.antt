-- The moment of an answer, by what the log tells of its call and what its pass has seen.
use Rattle.std.proofs.Common.{◌≡◌, ◌<◌, ◌||◌, ℕ, Bool, List, [], ◌∷◌, ◌++◌, refl, sym, ap, subst, ◌∙◌, eq-eqb}
use Rattle.std.specs.Prelude.{Option, Some, None, All}
use Rattle.std.proofs.lemmas.List.{same_from_push}
use Rattle.nm_edge.specs.Layouts.{Layout, IsLayout}
use Rattle.nm_model.specs.declared.arrivals.Call.{Call}
use Rattle.nm_model.specs.declared.event.Event.{Event}
use Rattle.nm_model.specs.declared.event.Event.TheVariants.{LeaveWith}
use Rattle.nm_model.specs.declared.event.Op.{Op}
use Rattle.nm_model.specs.declared.reply.Reply.TheVariants.{Departed}
use Rattle.nm_model.specs.declared.trace.Turn.{Turn}
use Rattle.nm_model.specs.Ordered.{ordered, trace_in, HasKey}
use Rattle.nm_model.specs.Searches.{idle}
use Rattle.nm_model.specs.Walks.{Entry, search_after}
use Rattle.nm_order.specs.Facts.Fact.{CallIs}
use Rattle.nm_order.specs.History.{pin_of}
use Rattle.nm_order.specs.Logs.{part_of, is_leaver}
use Rattle.nm_order.proofs.RunExchanges.{first_keys}
use Rattle.nm_model.specs.Histories.{call_begun, answer_turn, AnswerStands}
use Rattle.nm_theorem.proofs.HistoriesOfRuns.{with_pin}
use Rattle.nm_theorem.proofs.Runs.{Parts, parts_of}
use Rattle.nm_theorem.proofs.StandingAnswers.{answers_stand, call_by_log}
use Rattle.nm_steps.specs.declared.view.View.{View}
use Rattle.nm_steps.specs.Rules.{Extends}
use Rattle.nm_steps.specs.Steps.{PassView, Stepped, HasTurn, HasSeen, IsSamePass, HasSeenAllOf}
use Rattle.nm_epoch.specs.Resting.{search}
use Rattle.nm_steps.proofs.Growing.{goes_on_through}
use Rattle.nm_steps.proofs.Keeping.{part_grows}
use Rattle.nm_steps.proofs.Seeing.{seen_through, same_then}
use Rattle.nm_walks.specs.Telling.{Tells}
use Rattle.nm_calls.specs.Moments.{AnswerHasMoment, HadNoCall}

-- further on
pub no_call_on : (o p q : PassView) → HadNoCall o p → IsSamePass p q → HasSeenAllOf q p → HadNoCall o q
no_call_on o p q had same past = record {
  same = same_then o p q had.same same;
  past = seen_through o p q had.past
      past;
  call = had.call;
}

-- the call that a log tells is the one that the turns have begun
pub call_seen : (v : View) → IsLayout v.layout → (seen : HasSeen v) → (call : Option Call)
    → (search_after idle v.log).call ≡ call → call_begun v.number v.past
    ≡ with_pin (pin_of v.layout seen.events v.number) call
call_seen v fits seen call is =
    ap (call_begun v.number) seen.are
    ∙ call_by_log v.layout fits v.number seen.worker seen.events seen.keys call
    (ap (λ (l : List Entry). (search_after idle l).call) (ap (part_of v.number) (sym seen.are) ∙ seen.is_part) ∙ is)

-- and where it tells of none they have begun none
pub none_begun : (o : PassView) → HasSeen o.view → IsLayout o.view.layout → (search o).call ≡ None
    → call_begun o.view.number o.view.past ≡ None
none_begun o seen fits none' = call_seen o.view fits seen None none'

-- turns that end with the answer of a call, of a worker that had none behind an earlier part of them
answered : (L : Layout) → IsLayout L → (w : ℕ) → w < L.workers
    → (answer : Bool) (was before now : List Turn) (events : List (ℕ × Event)) → Extends before was
    → now ≡ before ++ answer_turn w answer ∷ [] → All (λ t. HasKey t.1) events → now ≡ trace_in (ordered L) events
    → (log : List Entry) (op : Op) (k : ℕ) → part_of w now ≡ log ++ (LeaveWith answer, Departed) ∷ []
    → call_begun w was ≡ None → (search_after idle log).call ≡ Some (record { op = op; key = k })
    → AnswerStands L was now w op k answer
answered L fits w below answer was before now events grows last keys are log op k is_log none' called =
    subst (λ (ts : List Turn). AnswerStands L was ts w op k answer) (sym are)
    (answers_stand L fits events keys was grows.more w (pin_of L p.early w) op k answer
    (sym are ∙ (last ∙ ap (λ (ts : List Turn). ts ++ answer_turn w answer ∷ []) grows.is))
    none'
    (ap (call_begun w) (sym grows.is)
    ∙ (ap (call_begun w) p.first_is
    ∙ call_by_log L fits w below p.early (first_keys p.early p.late
    (subst (λ (ts : List (ℕ × Event)). All (λ t. HasKey t.1) ts) p.all keys)) (Some (record { op = op; key = k }))
    (ap (λ (l : List Entry). (search_after idle l).call) (ap (part_of w) (sym p.first_is) ∙ own) ∙ called))))
  where
    p : Parts (ordered L) events before (answer_turn w answer ∷ [])
    p = parts_of (ordered L) events before (answer_turn w answer ∷ []) (sym are ∙ last)

    own : part_of w before ≡ log
    own = (same_from_push (part_of w before) log (LeaveWith answer, Departed) (LeaveWith answer, Departed)
        (sym (part_grows w before w (LeaveWith answer) Departed
        (ap (λ (b : Bool). b || is_leaver w (LeaveWith answer)) (eq-eqb w w refl)))
        ∙ (ap (part_of w) (sym last) ∙ is_log))).0

-- a leave with the answer of the call
pub moment_of : (o p q : PassView) (op : Op) (k : ℕ) (answer : Bool) → HadNoCall o p → IsLayout p.view.layout
    → Tells p (CallIs op k) → Stepped p q (LeaveWith answer) Departed → HasTurn p q (LeaveWith answer) Departed
    → HasSeen q.view → AnswerHasMoment o q op k answer
moment_of o p q op k answer had fits call step turn after =
    subst (λ (z : PassView). AnswerHasMoment o z op k answer) (sym step)
    (answered p.view.layout fits p.view.number now.worker answer o.view.past turn.before q.view.past now.events
    (goes_on_through turn.before p.view.past o.view.past turn.extends had.past.goes_on) turn.is now.keys now.are
    p.view.log op k now.is_part no_call call)
  where
    now : HasSeen (record p.view {
      log = p.view.log ++ (LeaveWith answer, Departed)
          ∷ [];
      past = q.view.past;
      stores = q.view.stores;
    })
    now = subst (λ (z : PassView). HasSeen z.view) step after

    no_call : call_begun p.view.number o.view.past ≡ None
    no_call = ap (λ (z : PassView). call_begun z.view.number o.view.past) had.same ∙ had.call
