-- The bounds of a walk, of a chain and of a cut.
use Rattle.std.specs.Prelude.{◌*◌, ℕ, if◌then◌else◌}
use Rattle.nm_edge.specs.Layouts.{Layout}

-- the largest number of internal nodes that a splice cuts off: those of a walk's chain, and the
-- parent below it
abbrev pub chain_bound : ℕ
chain_bound = 64

-- the largest number of nodes that a splice cuts off with their leaves: the room that a try needs
-- in the queue
abbrev pub cut_bound : ℕ
cut_bound = 2 * chain_bound

-- the largest number of nodes that a walk looks at: in a radix tree slot 2, 64 internal ones and a
-- leaf, and otherwise as many as the tree has
abbrev pub reach : Layout → ℕ
reach L = if L.radix then 66 else L.nodes
