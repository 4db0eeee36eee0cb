-- What turns tell as answered is answered so in a run that goes on from them.
use Rattle.std.proofs.Common.{◌≡◌, ℕ, ◌<◌, ◌≤◌, Bool, List, [], ◌∷◌, ◌++◌, append_assoc, length, length-append, sym, ap, subst, ◌∙◌, arith}
use Rattle.std.specs.Prelude.{All, Ok}
use Rattle.nm_edge.specs.Layouts.{Layout, IsLayout}
use Rattle.nm_model.specs.declared.event.Op.{Op}
use Rattle.nm_model.specs.declared.event.Event.{Event}
use Rattle.nm_model.specs.declared.event.Event.TheVariants.{LeaveWith}
use Rattle.nm_model.specs.declared.reply.Reply.TheVariants.{Departed}
use Rattle.nm_model.specs.declared.trace.Turn.{Turn}
use Rattle.nm_model.specs.Ordered.{HasKey, ordered, outcome_in, after_in, trace_in}
use Rattle.nm_order.specs.Answered.{IsAnsweredIn}
use Rattle.nm_order.specs.Exchanges.{MayAnswer}
use Rattle.nm_order.specs.History.{pin_of}
use Rattle.nm_order.specs.Intervals.{IsCalled}
use Rattle.nm_order.proofs.LoggedAnswers.{moment_of}
use Rattle.nm_order.proofs.RunExchanges.{first_keys}
use Rattle.nm_model.specs.Histories.{call_begun, answer_turn, AnswerStands}
use Rattle.nm_theorem.proofs.HistoriesOfRuns.{called_is}
use Rattle.nm_theorem.proofs.Runs.{Parts, parts_of, Head, head_of, enough_of}

-- what turns tell as answered, in a run that goes on from them
pub record AnsweredBy (L : Layout) (events : List (ℕ × Event)) (was now : List Turn) (w : ℕ) (op : Op) (k : ℕ)
    (answer : Bool) : Type 0 where
  pub is : IsAnsweredIn L events w op k answer
  pub short : length is.before < length now
  pub pinned : length was ≤ pin_of L is.before w

module _ (L : Layout) (fits : IsLayout L) (events : List (ℕ × Event)) (keys : All (λ t. HasKey t.1) events)
    (was now later : List Turn) (goes_on : trace_in (ordered L) events ≡ now ++ later)
    (w : ℕ) (op : Op) (k : ℕ) (answer : Bool) (s : AnswerStands L was now w op k answer) where
  abbrev before : List Turn
  before = was ++ s.since

  split : trace_in (ordered L) events ≡ before ++ answer_turn w answer ∷ later
  split = goes_on ∙ (ap (λ (ts : List Turn). ts ++ later) s.are ∙ append_assoc before (answer_turn w answer ∷ []) later)

  p : Parts (ordered L) events before (answer_turn w answer ∷ later)
  p = parts_of (ordered L) events before (answer_turn w answer ∷ later) split

  h : Head (after_in (ordered L) p.early) p.late (answer_turn w answer) later
  h = head_of (after_in (ordered L) p.early) p.late (answer_turn w answer) later (sym p.rest_is)

  event_is : h.event ≡ (w, LeaveWith answer)
  event_is = λ i. ((sym h.turn_is i).worker, (sym h.turn_is i).event)

  whole : events ≡ p.early ++ (w, LeaveWith answer) ∷ h.others
  whole = p.all ∙ (ap (λ (us : List (ℕ × Event)). p.early ++ us) h.all
      ∙ ap (λ (t : ℕ × Event). p.early ++ t ∷ h.others) event_is)

  leaves : outcome_in (after_in (ordered L) p.early) (w, LeaveWith answer) ≡ Ok Departed
  leaves = ap (outcome_in (after_in (ordered L) p.early)) (sym event_is) ∙ ap (λ (t : Turn). t.outcome) (sym h.turn_is)

  keyed : All (λ t. HasKey t.1) p.early
  keyed = first_keys p.early p.late (subst (λ (us : List (ℕ × Event)). All (λ t. HasKey t.1) us) p.all keys)

  call : (s.pin ≡ pin_of L p.early w) × IsCalled (after_in (ordered L) p.early) w op k
  call = called_is L (enough_of L fits) w p.early keyed (record { pin = s.pin; op = op; key = k })
      (ap (call_begun w) (sym p.first_is) ∙ s.call)

  may : MayAnswer (after_in (ordered L) p.early) w op k answer
  may = record { called = call.1; leaves = leaves }

  pub answered_by : AnsweredBy L events was now w op k answer
  answered_by = record {
    is = record {
      before = p.early;
      since = h.others;
      is_run = whole;
      may = may;
      moment = moment_of L
          (enough_of L fits) p.early keyed w op k answer may;
    };
    short = let size = p.size in let l = ap (λ (ts : List Turn). length ts) s.are in
        let m = length-append before (answer_turn w answer ∷ []) in omega (arith, size, l, m);
    pinned = let e = call.0 in let b = s.begins in omega (arith, e, b);
  }

  -- its pin is the call's
  pub pinned_so : s.pin ≡ pin_of L answered_by.is.before w
  unfolding answered_by
  pinned_so = call.0
