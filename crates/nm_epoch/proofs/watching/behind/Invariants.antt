use Rattle.nm_epoch.specs.Resting.{GoesOnSettled}
use Rattle.nm_epoch.proofs.Watched.{IsWatching}
use Rattle.nm_epoch.proofs.watching.behind.Given as goal

abbrev pub invariant-loop-worker : goal.invariant-loop-worker
invariant-loop-worker l = record {
  after : GoesOnSettled l.fn.pass l.pass;
  watching : IsWatching l.me l.epoch l.worker l.mask l.fn.pass.view.log l.pass;
}
