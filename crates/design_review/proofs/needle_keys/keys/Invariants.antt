use Rattle.std.proofs.Common.{◌≡◌, ◌++◌, drop, map}
use Rattle.design_review.specs.NeedleKeys.{key_of}
use Rattle.design_review.proofs.needle_keys.keys.Given as goal

-- the keys so far, and those of the points that are left
abbrev pub invariant-loop-point : goal.invariant-loop-point
invariant-loop-point l = l.keys.items ++ map key_of (drop l.point-index l.points) ≡ map key_of l.points
