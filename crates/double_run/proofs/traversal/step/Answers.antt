use Rattle.std.proofs.Common.{◌∙◌, arith, false, true}
use Rattle.double_run.proofs.Names.{graph_of, cursor_read, end_low, one_before}
use Rattle.double_run.proofs.CursorLemmas.{cursor_leads, is_passed, read_passed, spent_at}
use Rattle.double_run.proofs.StepLemmas.{over_step}
use Rattle.double_run.proofs.traversal.step.Goals as goal

pub come_back-requires-clause-spent : goal.come_back-requires-clause-spent
come_back-requires-clause-spent c =
    spent_at _ _ _ _ _ _ c.requires.ready
    (cursor_read _ _ _ _ _ _ _ c.index-number.ensures c.requires.ready ∙ c.if-number-eq0.true)

pub skip_end-requires-clause-end : goal.skip_end-requires-clause-end
skip_end-requires-clause-end c =
    let here = cursor_read _ _ _ _ _ _ _ c.index-number.ensures c.requires.ready ∙ one_before _ c.if-number-eq0.false in
    omega (arith, end_low _ _ _ _ _ _ _ here c.requires.ready, c.requires.ready.before_beside)

pub returns-then-index : goal.returns-then-index
returns-then-index c =
    let o = c.args.o.now in
    let here = cursor_read _ _ _ _ _ _ _ c.index-number.ensures c.requires.ready ∙ one_before _ c.if-number-eq0.false in
    let low = end_low _ _ _ _ _ _ _ here c.requires.ready in
    over_step (graph_of c.args.p.now) o c.skip_end.new.ends _ c.requires.keeps c.requires.ready here
    (is_passed o.passed.items _ (read_passed o.passed.items _ true (rw (c.leg_from-leg.ensures, c.if-index.true) at c.index.ensures)
    (omega (arith, low, c.requires.keeps.beside)))) c.skip_end.ensures

pub go_out-requires-clause-leads : goal.go_out-requires-clause-leads
go_out-requires-clause-leads c =
    let o = c.args.o.now in
    let here = cursor_read _ _ _ _ _ _ _ c.index-number.ensures c.requires.ready ∙ one_before _ c.if-number-eq0.false in
    let low = end_low _ _ _ _ _ _ _ here c.requires.ready in
    rw c.leg_from-leg.ensures
    (cursor_leads _ _ _ _ _ _ _ here
    (read_passed o.passed.items _ false (rw (c.leg_from-leg.ensures, c.if-index.false) at c.index.ensures)
    (omega (arith, low, c.requires.keeps.beside))) c.requires.ready)
