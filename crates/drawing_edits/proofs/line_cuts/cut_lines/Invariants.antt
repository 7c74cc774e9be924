use Rattle.std.proofs.Common.{◌≡◌, ◌++◌, drop}
use Rattle.drawing_edits.proofs.Names.{flat_map, line_cut_at}
use Rattle.drawing_edits.proofs.line_cuts.cut_lines.Given as goal

-- The lines so far are cut: the result depends on them and on the others.
abbrev pub invariant-loop-line : goal.invariant-loop-line
invariant-loop-line l = l.cut ++ flat_map (line_cut_at l.spot) (drop l.line-index l.lines) ≡ flat_map (line_cut_at l.spot) l.lines
