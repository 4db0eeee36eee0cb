use Rattle.std.proofs.Common.{◌≤◌}
use Rattle.nm_epoch.specs.Resting.{IsResting}
use Rattle.nm_steps.specs.Steps.{IsSamePass}
use Rattle.nm_tests.proofs.passes.epochs.rounds.Given as goal

abbrev pub invariant-loop-round : goal.invariant-loop-round
invariant-loop-round l = record {
  same : IsSamePass l.fn.pass l.pass;
  rests : IsResting l.pass;
  few : l.pinned ≤ l._round;
}
