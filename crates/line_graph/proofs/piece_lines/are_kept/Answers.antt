use Rattle.line_graph.proofs.ValidPieceLemmas.{part_kept}
use Rattle.line_graph.proofs.piece_lines.are_kept.Goals as goal

pub returns : goal.returns
returns c = part_kept c.split_points_lead.ensures c.args.d.now c.keeps_limits.ensures.limits c.args.lines.now c.requires
