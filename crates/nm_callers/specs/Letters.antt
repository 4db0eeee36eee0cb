-- A member that inserts a key and publishes a stamp, and one that observes the stamp and then looks
-- up the key.
use Rattle.std.specs.Prelude.{◌≡◌, ℕ, ◌≤◌, Bool, true, None}
use Rattle.nm_model.specs.declared.event.Op.TheVariants.{Has, Insert}
use Rattle.nm_steps.specs.Steps.{PassView, IsSamePass, HasSeenAllOf}
use Rattle.nm_progress.specs.Pending.{leaf_after}
use Rattle.nm_calls.specs.Moments.{AnswerHasMoment}
use Rattle.nm_calls.specs.Won.{HasWon}
use Rattle.nm_set.specs.declared.posting.Stamp.{Stamp}
use Rattle.nm_set.specs.Posts.{ComesBehind, IsTallyOf}
use Rattle.nm_tree.specs.Workers.{WorkerView}

-- the member has inserted k, has nothing pending, and has published a stamp of what it had done
-- then
pub record HasWritten (k : ℕ) (w z : WorkerView) (p : Stamp) : Type 0 where
  pub same : IsSamePass w.pass z.pass
  pub moment : AnswerHasMoment w.pass z.pass Insert k true
  pub won : HasWon w.pass.view.log z.pass.view.log 1 0
  pub rests : leaf_after z.pass.view.number None z.pass.view.past ≡ None
  pub tally : IsTallyOf z p

-- the member has observed that worker i had inserted a key, and then a look-up of k returned this
-- answer
pub record HasLookedBehind (i k : ℕ) (z : WorkerView) (answer : Bool) : Type 0 where
  pub told : Stamp
  pub some : 1 ≤ told.inserted
  pub start : PassView
  pub behind : ComesBehind i told start.view.past
  pub same : IsSamePass start z.pass
  pub past : HasSeenAllOf z.pass start
  pub look : AnswerHasMoment start z.pass Has k answer
