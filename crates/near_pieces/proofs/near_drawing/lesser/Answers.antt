use Rattle.std.proofs.Common.{◌∙◌, ap, sym}
use Rattle.near_pieces.proofs.Names.{are_in_order}
use Rattle.near_pieces.proofs.NearLemmas.{ordered_ends}
use Rattle.near_pieces.proofs.near_drawing.lesser.Goals as goal

pub returns-then-after-before-clause-ordered : goal.returns-then-after-before-clause-ordered
returns-then-after-before-clause-ordered c = ordered_ends c.args.d.now c.args.new c.requires.ordered c.requires.ends
    (ap are_in_order (sym c.starts.ensures) ∙ sym c.in_order.ensures ∙ c.if-in_order.true)
