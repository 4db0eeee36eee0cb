-- Finite maps from numbers, as lists of entries with ascending keys, and lists by number.
use Rattle.std.specs.Prelude.{ℕ, ◌==◌, Bool, false, List, Option, Some, None, is_some}
use Rattle.std.specs.Ordering.{nat_cmp}
use Rattle.std.specs.Map.{lookup, remove_entry}
use Rattle.std.specs.BTreeMap.{insert_entry, is_at}

-- what the key maps to
abbrev pub get : {X : Type 0} → List (ℕ × X) → ℕ → Option X
get m s = lookup (is_at (nat_cmp s)) m

-- the key maps to this from now on
abbrev pub put : {X : Type 0} → List (ℕ × X) → ℕ → X → List (ℕ × X)
put m s x = insert_entry nat_cmp m s x

-- the key maps to nothing from now on
abbrev pub without : {X : Type 0} → List (ℕ × X) → ℕ → List (ℕ × X)
without m s = remove_entry (is_at (nat_cmp s)) m

abbrev pub has : {X : Type 0} → List (ℕ × X) → ℕ → Bool
has m s = is_some (get m s)

-- the number exists, and is this one
abbrev pub is_number : Option ℕ → ℕ → Bool
is_number None n = false
is_number (Some m) n = m == n

-- the first if there is one, else the second
abbrev pub or_else : {X : Type 0} → Option X → Option X → Option X
or_else (Some x) o = Some x
or_else None o = o
