use Rattle.std.proofs.Common.{refl, sym, ◌∙◌}
use Rattle.std.proofs.lemmas.List.{drop_all, drop_more}
use Rattle.std.specs.HashMap.{get}
use Rattle.line_meetings.specs.KnownPoints.{is_same_point_key}
use Rattle.line_meetings.proofs.KnownLemmas.{none_known}
use Rattle.line_meetings.proofs.TellingLemmas.{told_all, told_enough, told_next}
use Rattle.line_meetings.proofs.finding.put_all_close.Goals as goal

pub loop-p-init : goal.loop-p-init
loop-p-init c = record {
  known = none_known c.args.gap c.args.tree.now (get is_same_point_key c.new-known.result)
      (λ k. rw c.new-known.ensures.empty refl);
  told = λ rest. refl;
}

pub returns-then-are_enough : goal.returns-then-are_enough
returns-then-are_enough c = told_enough _ _ _ _ (sym c.are_enough.ensures ∙ c.if-are_enough.true) c.loop-p.invariant.told

pub loop-p-preserved : goal.loop-p-preserved
loop-p-preserved c = record {
  known = c.in_ok-put_close.ensures.known;
  told = told_next _ _ _ _ _ _ _ _ (drop_more c.args.points.now c.loop-p.p-index _ c.loop-p-test.true) c.in_ok-put_close.ensures.found
      c.loop-p.invariant.told;
}

pub returns : goal.returns
returns c = told_all _ _ _ _ _ (drop_all c.loop-p.p-index c.args.points.now c.loop-p-test.false) c.loop-p.invariant.told
