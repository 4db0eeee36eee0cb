-- A worker that has inserted a key.
use Rattle.std.specs.Prelude.{◌≡◌, ℕ, true}
use Rattle.nm_edge.specs.Keys.{IsKey}
use Rattle.nm_model.specs.declared.event.Op.TheVariants.{Insert}
use Rattle.nm_calls.specs.Moments.{AnswerHasMoment}
use Rattle.nm_walks.specs.WonCounts.{won_flags}
use Rattle.nm_steps.specs.Steps.{PassView}
use Rattle.nm_tree.specs.Workers.{WorkerView}

-- an insert of that key, which returned true, is the worker's last answer; and the worker has
-- flagged nothing
pub record HasAdded (k : ℕ) (w : WorkerView) : Type 0 where
  pub key : IsKey k
  pub start : PassView
  pub moment : AnswerHasMoment start w.pass Insert k true
  pub unflagged : won_flags w.pass.view.log ≡ 0
