use Rattle.piece_stitches.proofs.PieceLemmas.{few_pieces, pieces_have_lines, totals_are_small}
use Rattle.piece_stitches.proofs.counting.piece_stitches.Goals as goal

pub listed-requires-clause-lines : goal.listed-requires-clause-lines
listed-requires-clause-lines c = pieces_have_lines c.args.d.now c.args.pieces.now c.requires

pub returns-clause-small : goal.returns-clause-small
returns-clause-small c = totals_are_small c.in_ok-all.all c.in_ok-all.ensures.small c.in_ok-all.ensures.few

pub listed-requires-clause-few : goal.listed-requires-clause-few
listed-requires-clause-few c =
    few_pieces c.args.d.now c.args.pieces.now c.keeps_limits.ensures.limits c.pieces_keep_limits.ensures c.requires
