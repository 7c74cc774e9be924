use Rattle.std.proofs.Common.{◌≡◌, ◌<◌, true, length, get_or, arith}
use Rattle.drawing_text.proofs.Names.{nat_tests, is_ascii_digit}
use Rattle.drawing_text.proofs.CoordinateLemmas.{longer_value, more_digits}
use Rattle.drawing_text.proofs.coordinate_words.few_digits.Goals as goal

pub loop-index-preserved : goal.loop-index-preserved
loop-index-preserved c =
    let there : c.loop-index.index < length c.args.bytes.now = omega (arith, c.loop-index-test.true) in
    let digit : is_ascii_digit (get_or c.args.bytes.now c.loop-index.index 0) ≡ true = grind (arith, nat_tests) in
    record {
      digits = more_digits c.args.bytes.now c.loop-index.index there c.loop-index.invariant.digits digit;
      value = longer_value c.args.bytes.now c.loop-index.index c.loop-index.size _ there c.loop-index.invariant.value
          c.with_digit-size.ensures.value;
      small = c.with_digit-size.ensures.few;
    }
