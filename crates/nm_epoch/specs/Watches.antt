-- The log of a search for workers that hold the epoch back, oldest entry first.
use Rattle.std.specs.Prelude.{◌≡◌, ◌+◌, ◌^◌, ℕ, zero, suc, List, Option, if◌then◌else◌}
use Rattle.nm_model.specs.Walks.{Entry}
use Rattle.nm_epoch.specs.declared.answers.Behind.{Behind}
use Rattle.nm_epoch.specs.Scans.{IsSightOf, LooksAt, lets_pass}

-- the bit of worker v, which was found so, if it holds the epoch e back
abbrev pub bit_of : ℕ → Option ℕ → ℕ → ℕ
bit_of v found e = if lets_pass found e then 0 else 2 ^ v

-- the workers below n were looked at in their order, and the mask has the bits of those that hold e
-- back
abbrev pub AllWatched : ℕ → Option ℕ → ℕ → ℕ → ℕ → List Entry → List Entry → Type 0
AllWatched me pin e zero mask old new = (new ≡ old) × (mask ≡ 0)
AllWatched me pin e (suc n) mask old new =
    (mid : List Entry) × (found : Option ℕ) × (less : ℕ) × AllWatched me pin e n less old mid
    × LooksAt me pin n found mid new × (mask ≡ less + bit_of n found e)

-- a sight of the epoch e, and then looks at the workers below n
abbrev pub SightThenWatch : ℕ → Option ℕ → ℕ → ℕ → ℕ → List Entry → List Entry → Type 0
SightThenWatch me pin e n mask old new =
    (mid : List Entry) × IsSightOf e old mid × AllWatched me pin e n mask mid new

-- what worker me, with that pin, finds among m workers: a sight and a scan of each other worker,
-- and the sum of 2^w over the workers w that were found at another epoch
abbrev pub IsBehind : ℕ → ℕ → Option ℕ → List Entry → List Entry → Behind → Type 0
IsBehind m me pin old new b = SightThenWatch me pin b.epoch m b.mask old new
