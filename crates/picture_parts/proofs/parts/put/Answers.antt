use Rattle.std.proofs.Common.{map}
use Rattle.std.proofs.lemmas.List.{at_drop_more, at_drop_all}
use Rattle.picture_parts.specs.Parts.{part_text}
use Rattle.picture_parts.proofs.TemplateLemmas.{fills_part, fills_no_part}
use Rattle.picture_parts.proofs.parts.put.Goals as goal

pub loop-part-preserved : goal.loop-part-preserved
loop-part-preserved c = fills_part _ _ _ _ _ _ _ _ _ _ c.loop-part.invariant
    (at_drop_more (map part_text) c.args.parts.now c.loop-part.part-index _ c.loop-part-test.true)
    c.split_template.ensures.before c.split_template.ensures.after c.in_ok-append.ensures.ok c.in_ok-put_part.ensures

pub returns : goal.returns
returns c = fills_no_part _ _ _ _ _ c.loop-part.invariant
    (at_drop_all (map part_text) c.args.parts.now c.loop-part.part-index c.loop-part-test.false) c.in_ok-append-2.ensures.ok
