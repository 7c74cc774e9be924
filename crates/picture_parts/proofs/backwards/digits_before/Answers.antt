use Rattle.std.proofs.Common.{arith, rules}
use Rattle.std.proofs.lemmas.Fmt.{length-decimal-le}
use Rattle.picture_parts.proofs.backwards.digits_before.Goals as goal

pub write_digits-requires : goal.write_digits-requires
write_digits-requires c = (
  omega (
    arith,
    length-decimal-le 20 c.args.number (omega arith) (omega (arith, c.ranges.number.fits))
        (omega (arith, c.ranges.number.fits)),
    c.requires.some,
  ),
  c.requires.there,
)

pub returns-clause-most : goal.returns-clause-most
returns-clause-most c =
    omega (
      arith,
      c.write_digits.ensures.start,
      length-decimal-le 20 c.args.number (omega arith) (omega (arith, c.ranges.number.fits))
          (omega (arith, c.ranges.number.fits)),
    )
