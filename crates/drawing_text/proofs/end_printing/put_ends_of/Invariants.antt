use Rattle.std.proofs.Common.{◌≡◌, ◌++◌, drop}
use Rattle.drawing_text.proofs.Names.{end_lines_text}
use Rattle.drawing_text.proofs.end_printing.put_ends_of.Given as goal

-- the text so far, and that of the starts or ends that are left
abbrev pub invariant-loop-spot : goal.invariant-loop-spot
invariant-loop-spot l = l.text ++ end_lines_text l.word l.block (drop l.spot-index l.spots)
    ≡ l.fn.text ++ end_lines_text l.word l.block l.spots
