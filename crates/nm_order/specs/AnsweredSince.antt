-- The moment of an answer is one of its own call: it is after all turns before that call began.
use Rattle.std.specs.Prelude.{◌≡◌, ℕ, ◌+◌, ◌<◌, ◌≤◌, Bool, true, false, List, [], ◌∷◌, ◌++◌, length, Some, None, All}
use Rattle.nm_edge.specs.Layouts.{Layout}
use Rattle.nm_model.specs.declared.event.Op.{Op}
use Rattle.nm_model.specs.declared.event.Op.TheVariants.{Has, Insert, Delete}
use Rattle.nm_model.specs.declared.event.Event.{Event}
use Rattle.nm_model.specs.declared.event.Event.TheVariants.{LeaveWith}
use Rattle.nm_model.specs.declared.reply.Reply.TheVariants.{Departed}
use Rattle.nm_model.specs.Searches.{idle}
use Rattle.nm_model.specs.Walks.{Entry, search_after}
use Rattle.nm_model.specs.Ordered.{ordered, after_in, trace_in, HasKey}
use Rattle.nm_order.specs.Logs.{part_of}
use Rattle.nm_order.specs.Exchanges.{MayAnswer}
use Rattle.nm_order.specs.History.{pin_of}
use Rattle.nm_order.specs.Answered.{HasMoment}

-- the number of turns that were made up to the moment of an answer: the link of a true insert and
-- the cut of a true delete are the last of them
abbrev pub moment_number : (L : Layout) (before : List (ℕ × Event)) (w : ℕ) (op : Op) (k : ℕ)
    (answer : Bool) → HasMoment L before w op k answer → ℕ
moment_number L before w Has k answer m = length m.before
moment_number L before w Insert k true m = length m.before + 1
moment_number L before w Insert k false m = length m.before
moment_number L before w Delete k true m = length m.before + 1
moment_number L before w Delete k false m = length m.before

-- the worker answers by a turn of the run, and the log is its part before that turn. The pin of the
-- call was confirmed after the earlier run, the moment is later than the pin, and it is no later
-- than the answer
pub record IsAnsweredSince (L : Layout) (past turns : List (ℕ × Event)) (w : ℕ) (log : List Entry)
    (op : Op) (k : ℕ) (answer : Bool) : Type 0 where
  pub before : List (ℕ × Event)
  pub since : List (ℕ × Event)
  pub is_run : turns ≡ before ++ (w, LeaveWith answer) ∷ since
  pub is_log : part_of w (trace_in (ordered L) before) ≡ log
  pub may : MayAnswer (after_in (ordered L) before) w op k answer
  pub pinned : length past ≤ pin_of L before w
  pub moment : HasMoment L before w op k answer
  pub later : pin_of L before w < moment_number L before w op k answer moment
  pub sooner : moment_number L before w op k answer moment ≤ length before

-- for a worker that had no call in an earlier run, and whose log in a longer run ends with the
-- answer of a call
abbrev pub AnswersAreOfTheirCalls : Type 0
AnswersAreOfTheirCalls = (L : Layout) → 5 ≤ L.nodes → (w : ℕ) → w < L.workers
    → (past more : List (ℕ × Event)) → All (λ t. HasKey t.1) (past ++ more)
    → (log : List Entry) (op : Op) (k : ℕ) (answer : Bool)
    → part_of w (trace_in (ordered L) (past ++ more)) ≡ log ++ (LeaveWith answer, Departed) ∷ []
    → (entries : List Entry) → log ≡ part_of w (trace_in (ordered L) past) ++ entries
    → (search_after idle (part_of w (trace_in (ordered L) past))).call ≡ None
    → (search_after idle log).call ≡ Some (record { op = op; key = k })
    → IsAnsweredSince L past (past ++ more) w log op k answer
