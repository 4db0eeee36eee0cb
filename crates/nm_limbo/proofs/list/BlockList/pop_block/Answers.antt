use Rattle.nm_limbo.proofs.Lists.{linked_after}
use Rattle.nm_limbo.proofs.list.BlockList.pop_block.Goals as goal

pub invariant_of-self : goal.invariant_of-self
invariant_of-self g c =
    let after = c.unlink_first-room.ensures in
    linked_after _ _ _ _ _ _ _ _ c.self.invariant after.chain.0 after.chain.1 after.taken.2
