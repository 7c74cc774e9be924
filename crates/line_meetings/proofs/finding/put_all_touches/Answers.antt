use Rattle.std.proofs.Common.{sym, ◌∙◌}
use Rattle.std.proofs.lemmas.List.{drop_all, drop_more}
use Rattle.line_meetings.proofs.TellingLemmas.{told_all, told_enough, told_next}
use Rattle.line_meetings.proofs.finding.put_all_touches.Goals as goal

pub returns-then-are_enough : goal.returns-then-are_enough
returns-then-are_enough c = told_enough _ _ _ _ (sym c.are_enough.ensures ∙ c.if-are_enough.true) c.loop-s.invariant

pub loop-s-preserved : goal.loop-s-preserved
loop-s-preserved c =
    told_next _ _ _ _ _ _ _ _ (drop_more c.args.segments.now c.loop-s.s-index _ c.loop-s-test.true) c.in_ok-put_touches.ensures
    c.loop-s.invariant

pub returns : goal.returns
returns c = told_all _ _ _ _ _ (drop_all c.loop-s.s-index c.args.segments.now c.loop-s-test.false) c.loop-s.invariant
