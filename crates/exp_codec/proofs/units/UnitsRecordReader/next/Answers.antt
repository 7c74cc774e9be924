use Rattle.std.proofs.Common.{◌∙◌, arith}
use Rattle.exp_codec.proofs.Names.{nat_tests, length-drop}
use Rattle.exp_codec.proofs.UnitLemmas.{two_bytes, four_bytes, behind_two}
use Rattle.exp_codec.proofs.units.UnitsRecordReader.next.Goals as goal

pub returns-then-first : goal.returns-then-first
returns-then-first c = record {
  some = omega arith;
  there = c.in-len2-up.len_at_least;
  is = λ more. grind (arith, nat_tests, two_bytes, c.in-len2-up.len_at_least, c.if-first.true, c.move_of.ensures.value);
  small = grind (arith, nat_tests, c.move_of.ensures.small);
}

pub returns-in-Some : goal.returns-in-Some
returns-in-Some c =
    let behind = behind_two c.args.bytes.now in
    let some = c.in-len2-up-behind.len_at_least in
    record {
      some = omega arith;
      there = grind (arith, nat_tests, length-drop, behind, some);
      is = λ more. four_bytes c.args.at c.args.bytes.now _ more behind c.in-len2-up.len_at_least some c.if-first.false
          ∙ grind (arith, nat_tests, c.move_of-2.ensures.value, c.control_event.ensures.value, c.in-Some.is);
      small = c.in-Some.ensures.small;
    }
