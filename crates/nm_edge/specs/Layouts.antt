-- The sizes of a tree.
use Rattle.std.specs.Prelude.{◌≡◌, ◌⊎◌, ℕ, ◌<◌, ◌≤◌, Bool, true, false}
use Rattle.nm_edge.specs.declared.layout.LayoutError.{LayoutError}
use Rattle.nm_edge.specs.declared.layout.LayoutError.TheVariants.{Nodes, Workers}

-- the number of nodes, the number of workers, the number of unused words after the announcement of
-- each, and the shape of the tree. In a radix tree each internal node is between the halves of a
-- range (`Ranges`); the other shape is that of Natarajan and Mittal
pub record Layout : Type 0 where
  pub nodes : ℕ
  pub workers : ℕ
  pub gap : ℕ
  pub radix : Bool

-- the sizes that are allowed: 7 to 268,435,456 nodes, the five fixed ones counted, 1 to 64 workers,
-- and 0 or 15 unused words after each announcement
pub record IsLayout (L : Layout) : Type 0 where
  pub least : 7 ≤ L.nodes
  pub most : L.nodes ≤ 268435456
  pub some : 1 ≤ L.workers
  pub few : L.workers ≤ 64
  pub gaps : (L.gap ≡ 0) ⊎ (L.gap ≡ 15)

-- words side by side, and the shape of Natarajan and Mittal
abbrev pub dense : ℕ → ℕ → Layout
dense nodes workers = record { nodes = nodes; workers = workers; gap = 0; radix = false }

-- each announcement apart from all other words, in 128 bytes of its own
abbrev pub spaced : ℕ → ℕ → Layout
spaced nodes workers = record { nodes = nodes; workers = workers; gap = 15; radix = false }

-- the same sizes, and the shape of a radix tree
abbrev pub in_radix : Layout → Layout
in_radix L = record { nodes = L.nodes; workers = L.workers; gap = L.gap; radix = true }

-- why there is no layout of these nodes, 7 to `most`, and these workers, 1 to 64: the number of
-- nodes is out of range; or it is in range, and that of the workers is not
abbrev pub IsLayoutFault : ℕ → ℕ → ℕ → LayoutError → Type 0
IsLayoutFault most nodes workers Nodes = (nodes < 7) ⊎ (most < nodes)
IsLayoutFault most nodes workers Workers =
    (7 ≤ nodes) × (nodes ≤ most) × ((workers < 1) ⊎ (64 < workers))
