-- How many steps a call makes.
use Rattle.std.specs.Prelude.{◌≤◌, ◌+◌, ◌*◌, ℕ, List, length}
use Rattle.nm_edge.specs.Layouts.{Layout}
use Rattle.nm_model.specs.Walks.{Entry}
use Rattle.nm_walks.specs.Bounds.{chain_bound, reach}

-- the bound of a call in steps: a walk and a cleanup in each of `tries` tries, and ten more
abbrev pub IsWithinBound : Layout → ℕ → List Entry → List Entry → Type 0
IsWithinBound L tries old new =
    length new ≤ length old + tries * (4 * reach L + 8 * chain_bound) + 10

-- the same bound with the steps of two claims
abbrev pub IsWithinClaims : Layout → ℕ → List Entry → List Entry → Type 0
IsWithinClaims L tries old new =
    length new ≤ length old + tries * (4 * reach L + 8 * chain_bound) + 6 * L.nodes + 10
