-- Lines, fields and numbers.
use Rattle.nm_files.specs.Chain.{◌>>=◌}
use Rattle.std.specs.Prelude.{ℕ, ◌^◌, List, [], length, slice_index, Bool, not, ◌&&◌, ◌||◌, ◌==◌, nat_lt, nat_le, Option, Some, None, Result, Ok, Err, if◌then◌else◌}
use Rattle.std.specs.List.{slice_split, list_all}
use Rattle.std.specs.Char.{is_ascii_digit}
use Rattle.std.specs.Str.Parse.{digits_value}
use Rattle.nm_files.specs.declared.read.fault.Reason.{Reason}
use Rattle.nm_files.specs.declared.read.fault.Reason.TheVariants as reason

-- the pieces between the bytes that are c: one more than there are such bytes
abbrev pub pieces : ℕ → List ℕ → List (List ℕ)
pieces c text = slice_split (λ b. b == c) text

-- the pieces of what may follow
abbrev pub further : ℕ → Option (List ℕ) → List (List ℕ)
further c None = []
further c (Some text) = pieces c text

-- the pieces between newlines: each part except the last is a line, and the last is what follows
-- the last newline
abbrev pub parts : List ℕ → List (List ℕ)
parts bytes = pieces 10 bytes

-- the pieces between spaces
abbrev pub fields : List ℕ → List (List ℕ)
fields line = pieces 32 line

abbrev pub is_visible : ℕ → Bool
is_visible b = nat_le 33 b && nat_le b 126

-- a field is of bytes 33 to 126 and not empty, so spaces are single
abbrev pub is_field : List ℕ → Bool
is_field field = nat_lt 0 (length field) && list_all is_visible field

-- decimal digits without a leading zero, except for 0 itself
abbrev pub is_numeral : List ℕ → Bool
is_numeral field = nat_lt 0 (length field) && list_all is_ascii_digit field
    && (not (slice_index field 0 == 48) || length field == 1)

-- a number below 2^64 in its one spelling
abbrev pub number : List ℕ → Result ℕ Reason
number field = if is_numeral field && nat_lt (digits_value 10 field) (2 ^ 64)
    then Ok (digits_value 10 field) else Err reason.Number

-- a slot or a worker: a number below 2^32
abbrev pub place : List ℕ → Result ℕ Reason
place field = do
  n ← number field
  if nat_lt n (2 ^ 32) then Ok n else Err reason.Number
