use Rattle.std.proofs.Common.{◌≤◌, length, arith}
use Rattle.line_graph.proofs.PieceLabelLemmas.{all_cut, none_cut, one_cut}
use Rattle.line_graph.proofs.connected_lines.labelled_pieces.Goals as goal

pub loop-line-preserved-then-labels-line : goal.loop-line-preserved-then-labels-line
loop-line-preserved-then-labels-line c =
    none_cut c.args.d.now c.args.labels.now c.loop-line.line _
    (omega (arith, c.loop-line-test.true, c.line_count-line-end.ensures.value, c.requires.sized)) c.if-labels-line.true
    c.loop-line.invariant

pub loop-line-preserved : goal.loop-line-preserved
loop-line-preserved c =
    one_cut c.args.d.now c.args.labels.now c.loop-line.line _ _ _
    (omega (arith, c.loop-line-test.true, c.line_count-line-end.ensures.value, c.requires.sized)) c.if-labels-line.false
    c.in_ok-labelled_piece.ensures c.in_ok-push.ensures.ok c.loop-line.invariant

pub returns : goal.returns
returns c =
    let all : length c.args.labels.now ≤ c.loop-line.line =
    omega (arith, c.loop-line-test.false, c.line_count-line-end.ensures.value, c.requires.sized) in
    all_cut c.args.d.now c.args.labels.now c.loop-line.line _ c.requires all c.loop-line.invariant
