use Rattle.std.proofs.Common.{sym, ◌∙◌}
use Rattle.std.proofs.lemmas.List.{drop_all, drop_more}
use Rattle.line_meetings.proofs.TellingLemmas.{told_all, told_enough, told_next}
use Rattle.line_meetings.proofs.finding.put_all_beside.Goals as goal

pub returns-then-are_enough : goal.returns-then-are_enough
returns-then-are_enough c = told_enough _ _ _ _ (sym c.are_enough.ensures ∙ c.if-are_enough.true) c.loop-p.invariant

pub loop-p-preserved : goal.loop-p-preserved
loop-p-preserved c =
    told_next _ _ _ _ _ _ _ _ (drop_more c.args.points.now c.loop-p.p-index _ c.loop-p-test.true) c.in_ok-put_beside.ensures
    c.loop-p.invariant

pub returns : goal.returns
returns c = told_all _ _ _ _ _ (drop_all c.loop-p.p-index c.args.points.now c.loop-p-test.false) c.loop-p.invariant
