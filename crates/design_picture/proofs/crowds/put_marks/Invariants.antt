use Rattle.std.proofs.Common.{◌≡◌, ◌++◌, drop}
use Rattle.design_picture.specs.Crowds.{crowd_marks}
use Rattle.design_picture.proofs.crowds.put_marks.Given as goal

-- the text so far and the marks of the places that are left are all of it
abbrev pub invariant-loop-place : goal.invariant-loop-place
invariant-loop-place l = l.text ++ crowd_marks l.commands (drop l.place-index l.places) ≡ l.fn.text ++ crowd_marks l.fn.commands l.fn.places
