use Rattle.std.proofs.Common.{◌≡◌, ◌+◌, ◌≤◌, None, length, replicate}
use Rattle.nm_limbo.proofs.list.BlockList.free_first.Given as goal

-- what has gone and what is there are all
abbrev pub invariant-loop-self : goal.invariant-loop-self
invariant-loop-self g l = (l.self.alloc ≡ l.initial.self.alloc) × (l.self.slots ≡ replicate (length l.self.slots) None)
    × (l.receipt.blocks + l.self.blocks ≡ l.initial.self.blocks) × (l.left ≤ l.self.blocks)

abbrev pub decreases-loop-self : goal.decreases-loop-self
decreases-loop-self g l = l.self.blocks
