use Rattle.std.proofs.Common.{length, ap, arith}
use Rattle.near_pieces.proofs.NearLemmas.{few_pieces}
use Rattle.near_pieces.proofs.near_drawing.near.Goals as goal

pub near_lines-requires : goal.near_lines-requires
near_lines-requires c = omega (
  arith,
  ap length c.as_slice-2.ensures,
  few_pieces c.args.d.now c.in_ok-all.all c.keeps_limits.ensures.limits c.pieces_keep_limits.ensures c.in_ok-all.ensures.cut,
)
