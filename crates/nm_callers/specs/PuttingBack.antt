-- A key that is deleted and inserted again, or inserted and deleted.
use Rattle.std.specs.Prelude.{◌≡◌, ℕ, Bool, true, false, Option, Some, None}
use Rattle.nm_model.specs.declared.event.Op.TheVariants.{Insert, Delete}
use Rattle.nm_calls.specs.Moments.{AnswerHasMoment}
use Rattle.nm_steps.specs.Steps.{HasSeenAllOf}
use Rattle.nm_tree.specs.Workers.{WorkerView}
use Rattle.nm_callers.specs.Meanwhile.{NoneDeleted, NoneInserted}

-- between w and some x a delete of the key returned true; and after x the key is found, unless
-- another delete of it takes effect
abbrev pub IsPutBack : ℕ → WorkerView → WorkerView → Option Bool → Type 0
IsPutBack k w z None = Unit {0}
IsPutBack k w z (Some found) = (x : WorkerView) × AnswerHasMoment w.pass x.pass Delete k true
    × (NoneDeleted z.pass.view.layout x.pass.view.past z.pass.view.past k → found ≡ true)

-- between w and some y an insert of the key returned true; and after y it was deleted and inserted
-- again
abbrev pub IsPutAgain : ℕ → WorkerView → WorkerView → Option Bool → Type 0
IsPutAgain k w z None = Unit {0}
IsPutAgain k w z (Some found) = (y : WorkerView) × AnswerHasMoment w.pass y.pass Insert k true
    × IsPutBack k y z (Some found)

-- the first answer was given at some x between w and z: the key was there, unless a delete of it
-- took effect after w; the second one was given at z: the key was absent, unless an insert of it
-- took effect after x
abbrev pub IsThereThenGone : ℕ → WorkerView → WorkerView → Bool × Bool → Type 0
IsThereThenGone k w z told = (x : WorkerView) × HasSeenAllOf x.pass w.pass × HasSeenAllOf z.pass x.pass
    × (NoneDeleted x.pass.view.layout w.pass.view.past x.pass.view.past k → told.0 ≡ true)
    × (NoneInserted z.pass.view.layout x.pass.view.past z.pass.view.past k → told.1 ≡ false)
