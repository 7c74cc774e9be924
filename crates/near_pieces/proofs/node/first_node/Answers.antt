use Rattle.std.proofs.Common.{refl}
use Rattle.near_pieces.proofs.NodeLemmas.{first_is_node}
use Rattle.near_pieces.proofs.node.first_node.Goals as goal

pub returns-clause-node : goal.returns-clause-node
returns-clause-node c = first_is_node c.args.visits.now c.args.from
    (record { from = c.args.from; travel = 0; taken = c.new.result; left = c.in_ok-left.left })
    refl refl c.new.ensures c.in_ok-left.ensures c.requires
