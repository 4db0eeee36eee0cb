-- The memory that a call may take for its queue.
use Rattle.std.specs.Prelude.{◌≡◌, ◌⊎◌, ◌<◌, ◌≤◌, ◌+◌, ◌*◌, length}
use Rattle.nm_epoch.specs.declared.collecting.Entry.{Entry}
use Rattle.nm_limbo.specs.Queue.{BlockQueue}
use Rattle.nm_walks.specs.Bounds.{cut_bound}

-- r has as many blocks as q; its added entries have used spare places of q
pub record FillsUp (q r : BlockQueue Entry) : Type 0 where
  pub blocks : r.blocks ≡ q.blocks
  pub places : length r.items + r.spare ≡ length q.items + q.spare
  pub spare : r.spare ≤ q.spare

-- the queue has no more blocks of 32 places than its entries and the room of a try need: there are
-- fewer spare places than that room and a block, and fewer used up places than a block has
pub record HasJustRoom (r : BlockQueue Entry) : Type 0 where
  pub spare : r.spare < cut_bound + 32
  pub blocks : 32 * r.blocks < length r.items + r.spare + 32

-- what a call may do to its queue: the number of blocks is unchanged or, if it took some, the queue
-- has no more than its entries and the room of a try need
abbrev pub TakesRoom : BlockQueue Entry → BlockQueue Entry → Type 0
TakesRoom q r = FillsUp q r ⊎ HasJustRoom r
