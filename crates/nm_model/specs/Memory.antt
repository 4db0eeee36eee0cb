-- The shared words, by their meaning.
use Rattle.std.specs.Prelude.{ℕ, ◌-◌, ◌^◌, ◌==◌, Bool, true, false, ◌&&◌, List, ◌∷◌, replicate, slice_index_or, slice_set, Option, None}
use Rattle.nm_edge.specs.Edges.{Edge, to}
use Rattle.nm_edge.specs.Layouts.{Layout}
use Rattle.nm_edge.specs.declared.edge.Side.{Side}
use Rattle.nm_edge.specs.declared.edge.Side.TheVariants.{Left, Right}
use Rattle.nm_edge.specs.declared.node.NodeId.{NodeId}
use Rattle.nm_model.specs.declared.memory.Node.{Node}

-- the global epoch, the announcement of each worker, and by slot the nodes and whether the slot is
-- in the pool. Slot 0 is no node: its entry has null edges (Fraser, section 5.2.3)
pub record Memory : Type 0 where
  pub epoch : ℕ
  pub announcements : List (Option ℕ)
  pub nodes : List Node
  pub pool : List Bool

-- the content of a slot that was never used, or that does not exist
abbrev pub blank : Node
blank = record { key = 0; left = to 0; right = to 0; birth = 0 }

-- the node in a slot: key, left and right edge, and birth (generation), the number of times that
-- its slot has been put to use (Natarajan and Mittal, section 3.1; births are ours)
abbrev pub node : Memory → ℕ → Node
node m s = slice_index_or m.nodes s blank

abbrev pub edge_of : Node → Side → Edge
edge_of n Left = n.left
edge_of n Right = n.right

abbrev pub edge : Memory → ℕ → Side → Edge
edge m s side = edge_of (node m s) side

-- the slot to which an edge leads
abbrev pub child : Memory → ℕ → Side → ℕ
child m s side = (edge m s side).slot

-- a node is a leaf if both its edges are null (Natarajan and Mittal, section 3.1)
abbrev pub is_leaf : Node → Bool
is_leaf n = (n.left.slot == 0) && (n.right.slot == 0)

-- what a worker announces: an epoch, or nothing while it is idle
abbrev pub announcement : Memory → ℕ → Option ℕ
announcement m w = slice_index_or m.announcements w None

-- whether the slot is in the pool
abbrev pub in_pool : Memory → ℕ → Bool
in_pool m s = slice_index_or m.pool s false

-- a slot with the birth that it has now
abbrev pub named : Memory → ℕ → NodeId
named m s = record { slot = s; birth = (node m s).birth }

abbrev pub put_node : Memory → ℕ → Node → Memory
put_node m s n = record m { nodes = slice_set m.nodes s n }

abbrev pub with_edge : Node → Side → Edge → Node
with_edge n Left e = record n { left = e }
with_edge n Right e = record n { right = e }

abbrev pub put_edge : Memory → ℕ → Side → Edge → Memory
put_edge m s side e = put_node m s (with_edge (node m s) side e)

-- `infinity_0`, `infinity_1`, `infinity_2`: the sentinels, greater than all keys of the set
abbrev pub infinity_0 : ℕ
infinity_0 = 2 ^ 64 - 3

abbrev pub infinity_1 : ℕ
infinity_1 = 2 ^ 64 - 2

abbrev pub infinity_2 : ℕ
infinity_2 = 2 ^ 64 - 1

-- `leaf`, `fork`: a leaf with that key; an internal node with that key over two slots
abbrev pub leaf : ℕ → Node
leaf key = record { key = key; left = to 0; right = to 0; birth = 0 }

abbrev pub fork : ℕ → ℕ → ℕ → Node
fork key left right = record { key = key; left = to left; right = to right; birth = 0 }

-- the empty tree. Root 1 has key ∞2 and the children 2 and 5. Node 2 has key ∞1 and the leaves 3
-- and 4 with keys ∞0 and ∞1, and leaf 5 has key ∞2. The epoch is 0, all workers are idle, and all
-- slots above 5 are in the pool, with words 0 (Natarajan and Mittal, section 3.2, figure 2)
abbrev pub opening : Layout → Memory
opening L = record {
  epoch = 0;
  announcements = replicate L.workers None;
  nodes = blank ∷ fork infinity_2 2 5 ∷ fork infinity_1 3 4 ∷ leaf infinity_0 ∷ leaf infinity_1 ∷ leaf infinity_2
      ∷ replicate (L.nodes - 5) blank;
  pool = false ∷ false ∷ false ∷ false ∷ false ∷ false ∷ replicate (L.nodes - 5) true;
}
