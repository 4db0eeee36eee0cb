use Rattle.std.proofs.Common.{◌≡◌, ◌++◌}
use Rattle.nm_serial.specs.Crews.{present}
use Rattle.nm_serial.proofs.one_thread.left_of.Given as goal

abbrev pub invariant-loop-place : goal.invariant-loop-place
invariant-loop-place l = l.workers.items ++ present l.place-iterator.rest.items ≡ present l.fn.crew.items
