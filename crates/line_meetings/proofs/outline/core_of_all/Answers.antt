use Rattle.std.proofs.Common.{ap, ◌∙◌}
use Rattle.std.proofs.lemmas.List.{drop_all, drop_more}
use Rattle.line_meetings.specs.declared.part_core.Core.{Core}
use Rattle.line_meetings.specs.Cores.{common_core}
use Rattle.line_meetings.proofs.CoreLemmas.{all_have, narrowed}
use Rattle.line_meetings.proofs.outline.core_of_all.Goals as goal

pub loop-part-preserved : goal.loop-part-preserved
loop-part-preserved c =
    narrowed _ _ _ _ _ _ c.loop-part.invariant (drop_more c.args.parts.now c.loop-part.part-index _ c.loop-part-test.true)
    (c.common-core.ensures ∙ ap (λ (core : Core). common_core c.loop-part.core core) c.of.ensures)

pub returns : goal.returns
returns c = all_have _ _ _ c.loop-part.invariant (drop_all c.loop-part.part-index c.args.parts.now c.loop-part-test.false)
