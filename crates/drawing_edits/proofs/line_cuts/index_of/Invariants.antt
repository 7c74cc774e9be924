use Rattle.std.proofs.Common.{◌≡◌, ◌+◌, drop}
use Rattle.drawing_edits.proofs.Names.{position_or_len, is_same_point}
use Rattle.drawing_edits.proofs.line_cuts.index_of.Given as goal

-- The points so far are others.
abbrev pub invariant-loop-p : goal.invariant-loop-p
invariant-loop-p l = record {
  counted : l.index ≡ l.p-index;
  left : l.index + position_or_len (is_same_point l.at) (drop l.p-index l.points)
      ≡ position_or_len (is_same_point l.at) l.points;
}
