use Rattle.line_sections.proofs.CutLemmas.{not_whole, whole_on}
use Rattle.line_sections.proofs.whole_lines.is_whole.Goals as goal

pub returns-then-is_cut : goal.returns-then-is_cut
returns-then-is_cut c =
    not_whole _ _ _ _ _ _ c.loop-at.invariant c.in-Some-split_first.ensures.cases.0 c.is_cut.ensures c.if-is_cut.true

pub loop-at-preserved : goal.loop-at-preserved
loop-at-preserved c =
    whole_on _ _ _ _ _ _ c.loop-at.invariant c.in-Some-split_first.ensures.cases.0 c.is_cut.ensures c.if-is_cut.false
