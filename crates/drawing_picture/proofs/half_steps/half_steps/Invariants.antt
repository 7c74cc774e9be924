use Rattle.std.proofs.Common.{◌≡◌, ◌++◌, All, drop}
use Rattle.drawing_picture.proofs.Names.{half_steps_from, IsNeedlePoint}
use Rattle.drawing_picture.specs.Bands.{half_steps as half_steps_along}
use Rattle.drawing_picture.proofs.half_steps.half_steps.Given as goal

-- the half steps so far and those of the needle points that are left
abbrev pub invariant-loop-next : goal.invariant-loop-next
invariant-loop-next l = record {
  first : IsNeedlePoint l.before;
  later : All IsNeedlePoint l.after;
  points : l.points ++ half_steps_from l.before (drop l.next-index l.after) ≡ half_steps_along l.needles;
}
