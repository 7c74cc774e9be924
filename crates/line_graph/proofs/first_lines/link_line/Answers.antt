use Rattle.line_graph.proofs.LinkLemmas.{line_linked}
use Rattle.line_graph.proofs.first_lines.link_line.Goals as goal

pub returns : goal.returns
returns c =
    line_linked c.args.d.now c.args.line _ _ _ _ _ _ _ _ _ c.requires.there c.line_block-block.ensures.value c.line_ends.ensures.first
    c.line_ends.ensures.last c.requires.linking c.in_ok-add_link.ensures c.in_ok-add_link-2.ensures
