use Rattle.std.proofs.Common.{ap, ◌∙◌}
use Rattle.std.proofs.lemmas.List.{drop_all, drop_more}
use Rattle.line_meetings.proofs.BoundsLemmas.{all_inside, grown}
use Rattle.line_meetings.proofs.Names.{Bounds, united_bounds}
use Rattle.line_meetings.proofs.outline.bounds_of_all.Goals as goal

pub loop-part-preserved : goal.loop-part-preserved
loop-part-preserved c =
    grown _ _ _ _ _ _ c.loop-part.invariant (drop_more c.args.parts.now c.loop-part.part-index _ c.loop-part-test.true)
    (c.united-bounds.ensures ∙ ap (λ (b : Bounds). united_bounds c.loop-part.bounds b) c.of.ensures)

pub returns : goal.returns
returns c = all_inside _ _ _ c.loop-part.invariant (drop_all c.loop-part.part-index c.args.parts.now c.loop-part-test.false)
