use Rattle.std.proofs.Common.{◌≡◌, ◌++◌, map}
use Rattle.drawing_edits.proofs.Names.{line_numbered, lines_outside}
use Rattle.drawing_edits.proofs.piece_orders.put_outside.Given as goal

-- The lines so far are added: the result depends on them and on the others.
abbrev pub invariant-loop-line : goal.invariant-loop-line
invariant-loop-line l =
    l.lines ++ map (line_numbered l.d) (lines_outside l.piece l.line-counter l.to)
    ≡ l.fn.lines ++ map (line_numbered l.d) (lines_outside l.piece l.from l.to)
