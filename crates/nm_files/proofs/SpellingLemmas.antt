-- A number has one spelling.
use Rattle.std.proofs.Common.{◌≡◌, ℕ, ◌^◌, Bool, true, false, cond, List, length, get_or, Ok, Err, refl, sym, ap, ◌∙◌, rules}
use Rattle.std.specs.Prelude.{decimal, nat_lt, ◌&&◌, ◌||◌, ◌==◌, not}
use Rattle.std.specs.List.{list_all}
use Rattle.std.specs.Char.{is_ascii_digit}
use Rattle.std.specs.Str.Parse.{digits_value}
use Rattle.std.proofs.lemmas.Bool.{and_parts, eqb-true, eq-eqb, ltb-true}
use Rattle.std.proofs.lemmas.Fmt.{decimal-digits_value}
use Rattle.std.proofs.lemmas.Str.Parse.{IsNumeralModel, numerals_by_value}
use Rattle.nm_files.specs.declared.read.fault.Reason.TheVariants as reason
use Rattle.nm_files.specs.Lines.{number, is_numeral}

own : IsNumeralModel (λ ds. list_all is_ascii_digit ds ≡ true) (digits_value 10)
own = numerals_by_value (λ ds. list_all is_ascii_digit ds ≡ true) (search rules)

chosen : (b : Bool) (n m : ℕ) → cond b (Ok n) (Err reason.Number) ≡ Ok m → (b ≡ true) × (n ≡ m)
chosen true n m e = (refl, cc)
chosen false n m e = absurd cc

first_zero : (a b : Bool) → (not a || b) ≡ true → a ≡ true → b ≡ true
first_zero true b h e = h
first_zero false b h e = absurd cc

pub number_is_decimal : (field : List ℕ) (n : ℕ) → number field ≡ Ok n → field ≡ decimal n
number_is_decimal field n e =
    let c = chosen (is_numeral field && nat_lt (digits_value 10 field) (2 ^ 64)) (digits_value 10 field) n e in
    let whole = and_parts (is_numeral field) (nat_lt (digits_value 10 field) (2 ^ 64)) c.0 in
    let front = and_parts (nat_lt 0 (length field) && list_all is_ascii_digit field)
    (not (get_or field 0 0 == 48) || length field == 1) whole.0 in
    let parts = and_parts (nat_lt 0 (length field)) (list_all is_ascii_digit field) front.0 in
    let alone : get_or field 0 0 ≡ 48 → length field
    ≡ 1 = λ z. eqb-true (length field) 1 (first_zero (get_or field 0 0 == 48) (length field == 1) front.1
    (eq-eqb (get_or field 0 0) 48 z)) in
    let spelled = decimal-digits_value own field parts.1 (ltb-true 0 (length field) parts.0) alone
    (ltb-true (digits_value 10 field) (2 ^ 64) whole.1) in
    sym spelled ∙ ap decimal c.1
