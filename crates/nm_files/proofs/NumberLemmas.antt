-- Fields and numbers.
use Rattle.std.proofs.Common.{◌≡◌, ℕ, ◌+◌, ◌-◌, ◌*◌, ◌^◌, ◌<◌, ◌≤◌, true, false, List, length, get_or, take, refl, arith}
use Rattle.std.specs.Prelude.{nat_lt}
use Rattle.std.specs.List.{list_all}
use Rattle.std.specs.Char.{is_ascii_digit, digit_value}
use Rattle.std.specs.Str.Parse.{digits_value}
use Rattle.std.specs.Prelude.{Err}
use Rattle.nm_files.specs.declared.read.fault.Reason.TheVariants as reason
use Rattle.nm_files.specs.Lines.{number, is_numeral}
use Rattle.std.proofs.lemmas.Bool.{le-ltb, and_right}
use Rattle.std.proofs.lemmas.List.Folds.{list_all_more}
use Rattle.std.proofs.lemmas.Int.Digits.{digits_value_more}
use Rattle.std.proofs.lemmas.Str.Parse.{digits_value-take-le}

-- digits that are too great at some place stay so
pub too_great : (field : List ℕ) (i value : ℕ) → i < length field → value ≡ digits_value 10 (take i field)
    → 2 ^ 64 ≤ value * 10 + digit_value (get_or field i 0) → nat_lt (digits_value 10 field) (2 ^ 64) ≡ false
too_great field i value lt is great =
    let more = digits_value_more 10 field i lt in
    let le = digits_value-take-le 10 field (i + 1) (omega arith) in
    le-ltb (digits_value 10 field) (2 ^ 64) (omega (arith, more, le, is, great))

-- a digit's value
pub digit_is : (c : ℕ) → is_ascii_digit c ≡ true → digit_value c ≡ c - 48
digit_is c h = grind arith

-- one more digit
pub number_more : (field : List ℕ) (i value digit : ℕ) → i < length field → is_ascii_digit (get_or field i 0) ≡ true
    → digit ≡ get_or field i 0 - 48 → value ≡ digits_value 10 (take i field)
    → value * 10 + digit ≡ digits_value 10 (take (i + 1) field)
number_more field i value digit lt is same value-is = omega
    (arith, digits_value_more 10 field i lt, digit_is (get_or field i 0) is, same, value-is)

pub digits_more : (field : List ℕ) (i : ℕ) → i < length field → is_ascii_digit (get_or field i 0) ≡ true
    → list_all is_ascii_digit (take i field) ≡ true → list_all is_ascii_digit (take (i + 1) field) ≡ true
digits_more field i lt is before = rw (list_all_more is_ascii_digit field i 0 lt, before, is) refl

-- and then it is no number
pub refused_great : (field : List ℕ) → nat_lt (digits_value 10 field) (2 ^ 64) ≡ false
    → Err reason.Number ≡ number field
refused_great field e = rw (e, and_right (is_numeral field) false refl) refl
