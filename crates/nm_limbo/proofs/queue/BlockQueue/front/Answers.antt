use Rattle.std.proofs.Common.{arith}
use Rattle.nm_limbo.proofs.Queues.{front_at}
use Rattle.nm_limbo.proofs.queue.BlockQueue.front.Goals as goal

pub get-requires : goal.get-requires
get-requires g c =
    let q = c.self.inside in
    let at = front_at q.used q.empty q.popped q.len q.alloc c.args.self.now c.self.invariant (omega arith)
    c.self.view_is in (at.0, at.1)

pub returns : goal.returns
returns g c =
    let q = c.self.inside in
    (front_at q.used q.empty q.popped q.len q.alloc c.args.self.now c.self.invariant (omega arith)
    c.self.view_is).2 c.get.result.now c.get.ensures
