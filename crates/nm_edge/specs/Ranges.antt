-- The ranges of a radix tree: an internal node with key R = (2q + 1) * 2^b is between the halves of
-- the range from R - 2^b up to R + 2^b.
use Rattle.std.specs.Prelude.{◌≡◌, ◌↔◌, ℕ, zero, suc, ◌+◌, ◌*◌, ◌/◌, ◌%◌, ◌^◌, ◌<◌, ◌≤◌, ◌==◌, Bool, true, false, if◌then◌else◌}

-- a key is in the range of a router of at most `bits` bits. If the router is odd, both have the
-- same half; else the half of the key is in the range of the half of the router
abbrev pub covers_in : ℕ → ℕ → ℕ → Bool
covers_in zero R k = false
covers_in (suc bits) R k = if R % 2 == 1 then k / 2 == R / 2 else covers_in bits (R / 2) (k / 2)

-- the same for words of 64 bits; no key is in the range of 0
abbrev pub covers : ℕ → ℕ → Bool
covers R k = covers_in 64 R k

-- R has the lowest bit 2^b, and k is at most 2^b below R or less than 2^b above it
pub record IsInRange (R k : ℕ) : Type 0 where
  pub bit : ℕ
  pub half : ℕ
  pub router : R ≡ (2 * half + 1) * 2 ^ bit
  pub within : k / 2 ^ (bit + 1) ≡ half

-- the range of a word is the one that its lowest bit gives
abbrev pub CoversIsTheRange : Type 0
CoversIsTheRange = (R k : ℕ) → R < 2 ^ 64 → covers R k ≡ true ↔ IsInRange R k

-- R is between two keys: both are in its range, the lesser one is below R, and the greater one is
-- not
pub record IsParting (k r R : ℕ) : Type 0 where
  pub covers_one : covers R k ≡ true
  pub covers_other : covers R r ≡ true
  pub low : k < r → (k < R) × (R ≤ r)
  pub high : r < k → (r < R) × (R ≤ k)
