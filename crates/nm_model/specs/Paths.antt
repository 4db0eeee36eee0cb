-- Paths from the root, and what they reach.
use Rattle.std.specs.Prelude.{◌≡◌, ◌≢◌, ℕ, List, [], ◌∷◌}
use Rattle.nm_edge.specs.declared.edge.Side.{Side}
use Rattle.nm_model.specs.Memory.{Memory, child}

-- the slot where a path from s ends; 0 if it leaves the tree (Natarajan and Mittal, section 3.1)
abbrev pub follow : (ℕ → Side → ℕ) → ℕ → List Side → ℕ
follow children s [] = s
follow children s (side ∷ sides) = follow children (children s side) sides

-- the slot where a path from the root ends (Natarajan and Mittal, section 3.1)
abbrev pub at : Memory → List Side → ℕ
at m path = follow (child m) 1 path

-- a slot that ends a path from the root (Natarajan and Mittal, section 3.1)
pub record Reached (m : Memory) (x : ℕ) : Type 0 where
  pub path : List Side
  pub ends : at m path ≡ x
  pub is_slot : x ≢ 0

-- an event cuts a slot that was reached before it and is not reached after it
pub record IsCut (before after : Memory) (x : ℕ) : Type 0 where
  pub was : Reached before x
  pub gone : Reached after x → ⊥
