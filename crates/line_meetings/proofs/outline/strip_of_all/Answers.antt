use Rattle.std.proofs.lemmas.List.{drop_all, drop_more}
use Rattle.line_meetings.proofs.StripLists.{all_lie, widened}
use Rattle.line_meetings.proofs.outline.strip_of_all.Goals as goal

pub loop-part-preserved : goal.loop-part-preserved
loop-part-preserved c =
    widened _ _ _ _ _ _ _ c.loop-part.invariant (drop_more c.args.parts.now c.loop-part.part-index _ c.loop-part-test.true) c.with.ensures
    c.with-strip.ensures

pub returns : goal.returns
returns c = all_lie _ _ _ c.loop-part.invariant (drop_all c.loop-part.part-index c.args.parts.now c.loop-part-test.false)
