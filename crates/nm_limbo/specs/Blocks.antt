-- The addresses of the blocks of a list, and which of their places are empty.
use Rattle.std.specs.Prelude.{◌≡◌, ℕ, ◌-◌, ◌<◌, List, [], ◌∷◌, length, Option, None, slice_index_or}
use denote.RawPtr.{Ptr, null_ptr}

-- the address of the first of the blocks
abbrev pub first_block_of : List Ptr → Ptr
first_block_of [] = null_ptr
first_block_of (p ∷ ps) = p

-- p is the address of the first of the blocks
abbrev pub IsFirst : List Ptr → Ptr → Type 0
IsFirst ps p = (0 < length ps) × (p ≡ first_block_of ps)

-- p is the address of the last of the blocks
abbrev pub IsLast : List Ptr → Ptr → Type 0
IsLast ps p = (0 < length ps) × (p ≡ slice_index_or ps (length ps - 1) null_ptr)

-- the i-th place exists, and holds nothing
abbrev pub IsEmptyAt : {X : Type 0} → List (Option X) → ℕ → Type 0
IsEmptyAt cs i = (i < length cs) × (slice_index_or cs i None ≡ None)
