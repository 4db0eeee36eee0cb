use Rattle.nm_limbo.proofs.Queues.{block_added}
use Rattle.nm_limbo.proofs.queue.BlockQueue.add_block.Goals as goal

pub invariant_of-self : goal.invariant_of-self
invariant_of-self g c =
    let q = c.self.inside in
    block_added q.used q.empty q.popped q.len q.alloc c.args.self.now c.push_block.new.self c.self.invariant
    c.self.view_is c.requires.0 c.requires.1 c.push_block.ensures
