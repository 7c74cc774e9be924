use Rattle.std.proofs.Common.{◌++◌, ◌≡◌, drop}
use Rattle.drawing_picture.proofs.Names.{flat_map}
use Rattle.picture_parts.specs.Paths.{straight_text}
use Rattle.drawing_picture.proofs.line_paths.put_stitches.Given as goal

-- the stitches so far, and those to the points that are left, are all
abbrev pub invariant-loop-point : goal.invariant-loop-point
invariant-loop-point l = l.text ++ flat_map straight_text (drop l.point-index l.points) ≡ l.fn.text ++ flat_map straight_text l.points
