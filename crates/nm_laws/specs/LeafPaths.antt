-- The leaves of the set and their keys, by the paths that lead to them, from left to right.
use Rattle.std.specs.Prelude.{◌≡◌, ◌≢◌, ◌↔◌, ℕ, ◌<◌, true, List, [], ◌∷◌, map, AllPairs, Contains}
use Rattle.nm_edge.specs.declared.edge.Side.{Side}
use Rattle.nm_edge.specs.declared.edge.Side.TheVariants.{Left, Right}
use Rattle.nm_model.specs.Memory.{Memory, node, is_leaf, infinity_0}
use Rattle.nm_model.specs.Paths.{at}
use Rattle.nm_model.specs.Reports.{keys}
use Rattle.nm_model.specs.Runs.{State}

-- a path is left of another: at the node at which they part, it goes left, and the other right
abbrev pub IsLeftOf : List Side → List Side → Type 0
IsLeftOf [] q = ⊥
IsLeftOf (side ∷ p) [] = ⊥
IsLeftOf (Left ∷ p) (Left ∷ q) = IsLeftOf p q
IsLeftOf (Left ∷ p) (Right ∷ q) = Unit {0}
IsLeftOf (Right ∷ p) (Left ∷ q) = ⊥
IsLeftOf (Right ∷ p) (Right ∷ q) = IsLeftOf p q

-- a slot is a leaf of the set: its key is below those of the fixed leaves (Natarajan and Mittal,
-- section 3.1)
pub record IsLeafOfTheSet (m : Memory) (x : ℕ) : Type 0 where
  pub is_slot : x ≢ 0
  pub childless : is_leaf (node m x) ≡ true
  pub low : (node m x).key < infinity_0

-- these are the keys of the leaves of the set to which paths from the root lead, a key for each
-- path, from left to right
pub record AreKeysFromTheLeft (m : Memory) (keys : List ℕ) : Type 0 where
  pub paths : List (List Side)
  pub ascend : AllPairs IsLeftOf paths
  pub exactly : (path : List Side) → Contains paths path ↔ IsLeafOfTheSet m (at m path)
  pub theirs : keys ≡ map (λ path. (node m (at m path)).key) paths

-- the keys that a state reports are these
abbrev pub KeysAreFromTheLeft : State → Type 0
KeysAreFromTheLeft s = AreKeysFromTheLeft s.memory (keys s)
