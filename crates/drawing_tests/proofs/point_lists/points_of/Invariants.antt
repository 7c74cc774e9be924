use Rattle.std.proofs.Common.{◌≡◌, map, take}
use Rattle.drawing_tests.specs.Places.{point_at}
use Rattle.drawing_tests.proofs.point_lists.points_of.Given as goal

-- the points so far
abbrev pub invariant-loop-x : goal.invariant-loop-x
invariant-loop-x l = l.points ≡ map point_at (take l.x-index l.places)
