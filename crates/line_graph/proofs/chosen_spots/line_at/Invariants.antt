use Rattle.std.proofs.Common.{◌≡◌, ◌+◌, drop}
use Rattle.line_graph.proofs.Names.{position_or_len, has_end_at_spot}
use Rattle.line_graph.proofs.chosen_spots.line_at.Given as goal

-- the first place is among the lines that are left
abbrev pub invariant-loop-index : goal.invariant-loop-index
invariant-loop-index l = l.index + position_or_len (has_end_at_spot l.spot) (drop l.index l.lines)
    ≡ position_or_len (has_end_at_spot l.spot) l.lines
