-- How many numbers there are for which something holds, and what the four counts of a state count.
use Rattle.std.specs.Prelude.{◌≡◌, ◌≢◌, ◌↔◌, ℕ, ◌≤◌, true, List, length, AllPairs, Contains}
use Rattle.nm_model.specs.declared.places.Places.{Places}
use Rattle.nm_model.specs.Memory.{in_pool}
use Rattle.nm_model.specs.Knowledge.{is_private}
use Rattle.nm_model.specs.Lawful.{IsWaiting}
use Rattle.nm_model.specs.Paths.{Reached}
use Rattle.nm_model.specs.Reports.{counts}
use Rattle.nm_model.specs.Runs.{State, of}

-- P holds for exactly n numbers: a list has each of them once, and no others
pub record HasCardinality (P : ℕ → Type 0) (n : ℕ) : Type 0 where
  pub members : List ℕ
  pub distinct : AllPairs (λ x y. x ≢ y) members
  pub exactly : (x : ℕ) → Contains members x ↔ P x
  pub size : length members ≡ n

-- P holds for exactly n of the slots above 5
abbrev pub HoldsOfSlots : State → (ℕ → Type 0) → ℕ → Type 0
HoldsOfSlots s P n = HasCardinality (λ x. (6 ≤ x) × (x ≤ s.layout.nodes) × P x) n

-- a slot that is private to some worker
abbrev pub IsInSomeHands : State → ℕ → Type 0
IsInSomeHands s x = (w : ℕ) × (is_private (of s w) x ≡ true)

-- each count is the number of the slots above 5 in its place. A slot is in the pool; private to a
-- worker; at the end of a path from the root; or an entry in the queue of an origin, which a worker
-- holds
pub record AreNumbersOfSlots (s : State) (places : Places) : Type 0 where
  pub pool : HoldsOfSlots s (λ x. in_pool s.memory x ≡ true) places.pool
  pub private : HoldsOfSlots s (IsInSomeHands s) places.private
  pub reached : HoldsOfSlots s (Reached s.memory) places.reached
  pub queued : HoldsOfSlots s (IsWaiting s) places.queued

-- the four counts of a state are these numbers
abbrev pub CountsAreNumbersOfSlots : State → Type 0
CountsAreNumbersOfSlots s = AreNumbersOfSlots s (counts s)
