use Rattle.std.proofs.Common.{◌≡◌, ◌++◌, drop}
use Rattle.drawing_text.proofs.Names.{flat_map, line_text, lines_of_block}
use Rattle.drawing_text.proofs.printing.put_lines_of.Given as goal

-- the text so far, and that of the lines that are left
abbrev pub invariant-loop-line : goal.invariant-loop-line
invariant-loop-line l = l.text ++ flat_map line_text (lines_of_block l.block (drop l.line-index l.lines))
    ≡ l.fn.text ++ flat_map line_text (lines_of_block l.block l.lines)
