use Rattle.std.proofs.Common.{◌≡◌, get_or, true, sym, ◌∙◌, arith}
use Rattle.std.specs.Char.{is_ascii_digit}
use Rattle.std.proofs.lemmas.Int.Digits.{digits_value_more}
use Rattle.cal_program.proofs.WordLemmas.{number_of-other, number_of-great, number_of-all, all_digits-more, digit_value-minus}
use Rattle.cal_program.proofs.words.number.Goals as goal

pub returns-then-not-is_ascii_digit : goal.returns-then-not-is_ascii_digit
returns-then-not-is_ascii_digit c = record {
  value = number_of-other c.args.word.now c.loop-digit.digit-index c.loop-digit-test.true
      (sym c.is_ascii_digit.ensures.value ∙ c.if-not-is_ascii_digit.true);
}

pub returns-in_err-value : goal.returns-in_err-value
returns-in_err-value c = record {
  value = c.from_residual.ensures
      ∙ number_of-great c.args.word.now c.loop-digit.digit-index c.loop-digit-test.true
      (omega (arith, c.in_err-value.ensures, c.loop-digit.invariant.value));
}

pub returns-in_err-value-2 : goal.returns-in_err-value-2
returns-in_err-value-2 c =
    let digit = digit_value-minus (get_or c.args.word.now c.loop-digit.digit-index 0)
    (sym c.if-not-is_ascii_digit.ensures.value) in
    record {
      value = c.from_residual-in_err-value-2.ensures
          ∙ number_of-great c.args.word.now c.loop-digit.digit-index c.loop-digit-test.true
          (omega (arith, c.in_err-value-2.ensures, c.in_ok-value.ensures, c.loop-digit.invariant.value));
    }

pub loop-digit-preserved : goal.loop-digit-preserved
loop-digit-preserved c =
    let word = c.args.word.now in
    let at = c.loop-digit.digit-index in
    let is_digit : is_ascii_digit (get_or word at 0) ≡ true = sym c.if-not-is_ascii_digit.ensures.value in
    let digit = digit_value-minus (get_or word at 0) is_digit in
    let more = digits_value_more 10 word at c.loop-digit-test.true in
    let product = c.in_ok-value.ensures in
    let sum = c.in_ok-value-2.ensures in
    record {
      digits = all_digits-more word at c.loop-digit-test.true is_digit c.loop-digit.invariant.digits;
      value = omega (arith, more, digit, product, sum, c.loop-digit.invariant.value);
      fits = omega (arith, sum);
    }

pub returns : goal.returns
returns c = record {
  value = number_of-all c.args.word.now c.loop-digit.digit-index c.loop-digit.value (sym c.if-not-begins_well.ensures)
      (omega (arith, c.loop-digit-test.false, c.loop-digit.auto.digit-index-end))
      c.loop-digit.invariant.digits c.loop-digit.invariant.value c.loop-digit.invariant.fits;
}
