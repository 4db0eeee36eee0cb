use Rattle.std.proofs.Common.{◌-◌, ◌+◌, ◌*◌, ◌≤◌, ℕ}
use Rattle.nm_limbo.specs.Queue.{IsGrown}
use Rattle.nm_limbo.proofs.queue.BlockQueue.reserve.Given as goal

-- no fewer blocks were enough
abbrev pub invariant-loop-self : goal.invariant-loop-self
invariant-loop-self g l = IsGrown l.initial.self l.self
    × ((m : ℕ) → l.n ≤ l.initial.self.spare + 32 * m → l.self.blocks ≤ l.initial.self.blocks + m)

abbrev pub decreases-loop-self : goal.decreases-loop-self
decreases-loop-self g l = l.n - l.self.spare
