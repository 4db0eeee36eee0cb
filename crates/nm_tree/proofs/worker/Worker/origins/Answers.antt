use Rattle.std.proofs.Common.{arith}
use Rattle.nm_tree.proofs.worker.Worker.origins.Goals as goal

pub overflow_cast-result : goal.overflow_cast-result
overflow_cast-result c = let few = c.self.invariant.few in let all = c.self.inside.queues.ok.0 in
    omega (arith, few, all, c.len.ensures)
