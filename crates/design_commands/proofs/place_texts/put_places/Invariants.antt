use Rattle.std.proofs.Common.{◌≡◌, ◌++◌, length}
use Rattle.design_commands.specs.PlaceTexts.{design_place_lines}
use Rattle.design_commands.proofs.place_texts.put_places.Given as goal

-- the lines so far, and those of the places that are left
abbrev pub invariant-loop-rest : goal.invariant-loop-rest
invariant-loop-rest l = l.text ++ design_place_lines l.rest ≡ l.fn.text ++ design_place_lines l.places

abbrev pub decreases-loop-rest : goal.decreases-loop-rest
decreases-loop-rest l = length l.rest
