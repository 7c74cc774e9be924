use Rattle.std.proofs.Common.{◌≡◌, ◌++◌, map, take}
use Rattle.drawing_edits.proofs.Names.{line_numbered}
use Rattle.drawing_edits.proofs.piece_orders.put_piece.Given as goal

-- The lines so far are added.
abbrev pub invariant-loop-line : goal.invariant-loop-line
invariant-loop-line l = l.lines ≡ l.fn.lines ++ map (line_numbered l.d) (take l.line-index l.piece)
