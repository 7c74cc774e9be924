use Rattle.std.proofs.Common.{◌≡◌, ◌++◌, length}
use Rattle.drawing_reports.specs.PlaceTexts.{spacing_lines}
use Rattle.drawing_reports.proofs.place_texts.put_spacings.Given as goal

-- the lines so far, and those of the spacings that are left
abbrev pub invariant-loop-rest : goal.invariant-loop-rest
invariant-loop-rest l = l.text ++ spacing_lines l.rest ≡ l.fn.text ++ spacing_lines l.spacings

abbrev pub decreases-loop-rest : goal.decreases-loop-rest
decreases-loop-rest l = length l.rest
