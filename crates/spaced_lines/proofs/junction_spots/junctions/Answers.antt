use Rattle.std.proofs.Common.{drop, arith}
use Rattle.spaced_lines.proofs.Names.{contains, is_same_spot, nat_tests, drop_all, drop_more}
use Rattle.spaced_lines.proofs.JunctionLemmas.{junctions_go_on}
use Rattle.spaced_lines.proofs.junction_spots.junctions.Goals as goal

pub returns : goal.returns
returns c =
    grind (
      arith,
      nat_tests,
      (drop c.loop-section.section-index c.args.sections.now),
      c.loop-section.invariant,
      (drop_all c.loop-section.section-index c.args.sections.now c.loop-section-test.false),
    )

pub loop-section-preserved : goal.loop-section-preserved
loop-section-preserved c = junctions_go_on (contains is_same_spot c.loop-section.junctions)
    (contains is_same_spot c.put_ends.new.junctions) c.args.sections.now
    (drop c.loop-section.section-index c.args.sections.now) _ c.section-item.result c.loop-section.invariant
    (rw c.section-item.is (drop_more c.args.sections.now c.loop-section.section-index _ c.loop-section-test.true))
    c.in_ok-put_ends.ensures
