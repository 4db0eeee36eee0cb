use Rattle.std.proofs.Common.{◌≡◌, true, get_or, arith, sym, ◌∙◌}
use Rattle.std.specs.Char.{is_ascii_digit}
use Rattle.nm_files.proofs.NumberLemmas.{too_great, number_more, digits_more, digit_is, refused_great}
use Rattle.nm_files.proofs.read.field.number.Goals as goal

pub returns-then-value-digit : goal.returns-then-value-digit
returns-then-value-digit c =
    let digit = digit_is (get_or c.args.field.now c.loop-b.b-index 0)
    (sym c.is_ascii_digit.ensures.value ∙ c.if-not-is_ascii_digit.false) in
    refused_great c.args.field.now (too_great c.args.field.now c.loop-b.b-index c.loop-b.value c.loop-b-test.true
    c.loop-b.invariant.value (omega (arith, digit, c.from-digit.ensures, c.if-value-digit.true)))

pub loop-b-preserved : goal.loop-b-preserved
loop-b-preserved c =
    let is : is_ascii_digit (get_or c.args.field.now c.loop-b.b-index 0) ≡ true = sym c.is_ascii_digit.ensures.value
    ∙ c.if-not-is_ascii_digit.false in
    record {
      digits = digits_more c.args.field.now c.loop-b.b-index c.loop-b-test.true is c.loop-b.invariant.digits;
      value = number_more c.args.field.now c.loop-b.b-index c.loop-b.value c.from-digit.result c.loop-b-test.true is
          c.from-digit.ensures c.loop-b.invariant.value;
    }
