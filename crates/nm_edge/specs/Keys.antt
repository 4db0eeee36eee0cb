-- The keys of the set.
use Rattle.std.specs.Prelude.{ℕ, ◌-◌, ◌^◌, ◌≤◌}

-- a key of the set is at most 2^64 - 4: the three greatest words, above all keys, are the sentinels
-- ∞0, ∞1 and ∞2 (Natarajan and Mittal, section 3.2)
abbrev pub IsKey : ℕ → Type 0
IsKey n = n ≤ 2 ^ 64 - 4
