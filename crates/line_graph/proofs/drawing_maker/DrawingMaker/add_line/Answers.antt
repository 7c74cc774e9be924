use Rattle.std.proofs.Common.{◌≡◌, ◌≤◌, true, ◌++◌, ◌∷◌, [], length, ap, sym, ◌∙◌, arith}
use Rattle.line_graph.proofs.DrawingNames.{nat_tests, LineValue, DrawingValue, all_in_needle_range, steps_with_line}
use Rattle.line_graph.proofs.MakerLemmas.{all_in_range, line_put, may_come}
use Rattle.line_graph.proofs.drawing_maker.DrawingMaker.add_line.Goals as goal

pub invariant_of-self-2 : goal.invariant_of-self-2
invariant_of-self-2 c =
    let points = c.args.points in
    let before = c.self.inside.parts.lines.items in
    let found : all_in_needle_range points ≡ true = grind (arith, nat_tests) in
    let some : 1 ≤ length c.self.inside.parts.threads.items = grind (arith, nat_tests) in
    let in_range = all_in_range points found in
    let comes = may_come _ points c.in_ok-steps.steps in_range
    (ap (λ (d : DrawingValue). steps_with_line d points) c.self.view_is
    ∙ (ap (steps_with_line c.args.self.now) (sym c.as_slice-2.ensures) ∙ sym c.in_ok-steps.ensures)) in
    let line = rw c.len.ensures.value at c.new.ensures in
    let lines = c.in_ok-push.ensures.items ∙ ap (λ (l : LineValue). before ++ l ∷ []) line in
    rw (lines, c.len-count.ensures) (line_put _ points _ _ _ _ c.self.invariant some comes)
