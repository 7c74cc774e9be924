use Rattle.std.proofs.Common.{◌≡◌, ◌∷◌, ◌++◌, drop, unsigned_abs, ap, arith, rules, to_z-of_z}
use Rattle.std.proofs.lemmas.Bool.Decides.{nat_tests}
use Rattle.std.proofs.lemmas.Fmt.{length-decimal-le}
use Rattle.std.proofs.lemmas.Int.{ints}
use Rattle.std.specs.Fmt.{decimal, signed_decimal}
use Rattle.design_model.proofs.backwards.number_before.Goals as goal

pub write_digits-start-requires : goal.write_digits-start-requires
write_digits-start-requires c =
    (omega (arith, length-decimal-le 10 c.unsigned_abs.result (omega arith) (omega arith) (omega arith)), search rules)

pub returns-then-number-ge0-clause-most : goal.returns-then-number-ge0-clause-most
returns-then-number-ge0-clause-most c =
    omega (arith, c.write_digits-start.ensures.start, length-decimal-le 10 c.unsigned_abs.result (omega arith) (omega arith) (omega arith))

pub byte_before-requires-clause-some : goal.byte_before-requires-clause-some
byte_before-requires-clause-some c =
    omega (arith, c.write_digits-start.ensures.start, length-decimal-le 10 c.unsigned_abs.result (omega arith) (omega arith) (omega arith))

pub returns-clause-most : goal.returns-clause-most
returns-clause-most c =
    omega (
      arith,
      c.write_digits-start.ensures.start,
      c.byte_before.ensures.start,
      length-decimal-le 10 c.unsigned_abs.result (omega arith) (omega arith) (omega arith),
    )

pub returns-clause-written : goal.returns-clause-written
returns-clause-written c =
    let back = to_z-of_z c.ranges.number in
    let negative = rw back at c.if-number-ge0.false in
    let signed : 45 ∷ decimal (unsigned_abs c.args.number) ≡ signed_decimal c.args.number = grind (arith, nat_tests, ints, negative) in
    rw (c.byte_before.ensures.written, c.write_digits-start.ensures.written, c.unsigned_abs.ensures.value, back)
    (ap (λ text. text ++ drop c.args.end c.args.room.now) signed)
