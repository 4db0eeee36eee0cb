use Rattle.nm_epoch.specs.Resting.{GoesOnSettled}
use Rattle.nm_epoch.proofs.Marks.{IsLooking}
use Rattle.nm_epoch.proofs.moving.move_on.Given as goal

abbrev pub invariant-loop-worker : goal.invariant-loop-worker
invariant-loop-worker l = record {
  after : GoesOnSettled l.fn.pass l.pass;
  looking : IsLooking l.me l.epoch l.worker l.fn.pass.view.log l.pass;
}
