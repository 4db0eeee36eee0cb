use Rattle.std.proofs.Common.{Some, ◌≡◌}
use Rattle.nm_epoch.specs.Resting.{IsTrying, KeepsHands, epochs}
use Rattle.nm_steps.specs.Steps.{Continues}
use Rattle.nm_epoch.specs.Tries.{LostTries, after_sight, confirming}
use Rattle.nm_epoch.proofs.pinning.pin_by.Given as goal

abbrev pub invariant-loop-round : goal.invariant-loop-round
invariant-loop-round l = record {
  on : Continues l.fn.pass l.pass;
  tries : LostTries (confirming l.by) l._round (after_sight l.fn.pass.view.log l.first) l.pass.view.log;
  trying : IsTrying l.pass;
  hands : KeepsHands l.fn.pass l.pass;
  last : (epochs l.pass).seen ≡ Some l.epoch;
}
