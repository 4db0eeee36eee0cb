use Rattle.std.proofs.Common.{◌≡◌, ◌++◌, map}
use Rattle.nm_serial.specs.declared.threads.Played.{Played}
use Rattle.nm_serial.proofs.many_threads.workers_of.Given as goal

abbrev pub invariant-loop-part : goal.invariant-loop-part
invariant-loop-part l = l.workers.items ++ map (λ (p : Played). p.worker) l.part-iterator.rest.items
    ≡ map (λ (p : Played). p.worker) l.fn.played.items
