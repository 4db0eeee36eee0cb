use Rattle.std.proofs.Common.{◌≡◌, ◌++◌, All, map, Some}
use Rattle.nm_steps.specs.Steps.{IsOf}
use Rattle.nm_serial.specs.Crews.{AreCrewOf}
use Rattle.nm_serial.proofs.one_thread.crew_of.Given as goal

abbrev pub invariant-loop-worker : goal.invariant-loop-worker
invariant-loop-worker l = record {
  own : AreCrewOf l.tree l.crew.items;
  left : All (λ w. IsOf l.tree w.pass) l.worker-iterator.rest.items;
  places : l.crew.items ++ map Some l.worker-iterator.rest.items ≡ map Some l.fn.workers.items;
}
