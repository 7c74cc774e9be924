use Rattle.std.proofs.Common.{◌∙◌, Some, ap}
use Rattle.near_pieces.proofs.Names.{remove}
use Rattle.near_pieces.proofs.NodeLemmas.{inside_after}
use Rattle.near_pieces.proofs.node.next_node.Goals as goal

pub returns-clause-inside : goal.returns-clause-inside
returns-clause-inside c = inside_after c.args.visits.now c.args.node.now c.args.index c.way.result (Some c.exit.result)
    c.in_ok-taken.taken c.in_ok-left.left c.requires.node c.requires.index c.way.ensures.most
    (c.in_ok-left.ensures ∙ ap (λ l. remove l c.args.index) c.as_slice-3.ensures)
