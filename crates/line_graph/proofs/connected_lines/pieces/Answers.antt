use Rattle.std.proofs.Common.{◌∙◌}
use Rattle.line_graph.proofs.BlockLemmas.{blocks_few}
use Rattle.line_graph.proofs.PieceLabelLemmas.{labels_are}
use Rattle.line_graph.proofs.connected_lines.pieces.Goals as goal

pub labelled_pieces-requires : goal.labelled_pieces-requires
labelled_pieces-requires c =
    rw c.as_slice-2.ensures.value
    (labels_are c.args.d.now _ _ c.in_ok-links.ensures (rw (← c.as_slice.ensures.value) c.in_ok-labels.ensures.value)
    (c.in_ok-labels.ensures.sized ∙ c.line_count.ensures.value))

pub returns-clause-blocks : goal.returns-clause-blocks
returns-clause-blocks c = blocks_few c.args.d.now _ c.keeps_limits.ensures.limits c.in_ok-pieces.ensures.each
