use Rattle.std.proofs.Common.{◌∙◌, arith, sym}
use Rattle.euler_tour.proofs.Names.{get_or_default_zero, graph_of, one_before}
use Rattle.euler_tour.proofs.CallerLemmas.{cursor_read, end_low}
use Rattle.euler_tour.proofs.CursorLemmas.{none_remains}
use Rattle.euler_tour.proofs.StepLemmas.{over_step}
use Rattle.euler_tour.proofs.partial_tour.step.Goals as goal

pub go_back-requires-clause-stuck : goal.go_back-requires-clause-stuck
go_back-requires-clause-stuck c =
    none_remains _ _ _ _ _ _ _ c.requires
    (cursor_read _ _ _ _ _ _ _ c.index-number.ensures c.requires.chains ∙ c.if-number-eq0.true)

pub skip_end-requires-clause-end : goal.skip_end-requires-clause-end
skip_end-requires-clause-end c =
    let here = cursor_read _ _ _ _ _ _ _ c.index-number.ensures c.requires.chains ∙ one_before _ c.if-number-eq0.false in
    omega (arith, end_low _ _ _ _ _ _ _ here c.requires.chains, c.requires.chains.before_beside)

pub returns-then-index-eq0 : goal.returns-then-index-eq0
returns-then-index-eq0 c =
    let t = c.args.t.now in
    let here = cursor_read _ _ _ _ _ _ _ c.index-number.ensures c.requires.chains ∙ one_before _ c.if-number-eq0.false in
    let low = end_low _ _ _ _ _ _ _ here c.requires.chains in
    let none = sym (rw c.line_index_of.ensures at c.index.ensures
    ∙ get_or_default_zero t.left.items _ _ (omega (arith, low, c.requires.left_beside))) ∙ c.if-index-eq0.true in
    over_step (graph_of c.args.p.now) t c.skip_end.new.ends _ c.requires here none c.skip_end.ensures
