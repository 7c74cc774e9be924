use Rattle.std.proofs.Common.{arith}
use Rattle.stitch_text.proofs.Names.{drop-drop, nat_tests}
use Rattle.stitch_text.proofs.ListStateLemmas.{line_on}
use Rattle.stitch_text.proofs.list_decoder.ListDecoder.take_lines.Goals as goal

pub loop-line-preserved : goal.loop-line-preserved
loop-line-preserved c =
    let kept = c.loop-line.invariant in
    let split = c.in-Some.ensures in
    record {
      at = omega (arith, kept.at, split.sizes);
      there = omega (arith, kept.there, split.sizes);
      left =
          grind (arith, nat_tests, drop-drop, kept.left, kept.there, split.sizes);
      on = line_on _ _ _ _ _ c.args.start c.loop-line.at _ c.args.bytes.now c.loop-line.rest.now c.in-Some.line.now c.in-Some.after.now
          kept.on split.some c.in_ok-take_line.ensures (omega arith);
    }
