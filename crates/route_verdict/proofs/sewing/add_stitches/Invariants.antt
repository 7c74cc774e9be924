use Rattle.std.proofs.Common.{◌≡◌, map, take}
use Rattle.route_verdict.proofs.Names.{Stitch, with_commands}
use Rattle.route_verdict.proofs.sewing.add_stitches.Given as goal

-- the stitches so far
abbrev pub invariant-loop-point : goal.invariant-loop-point
invariant-loop-point l = l.design ≡ with_commands l.fn.design (map (λ p. Stitch p) (take l.point-index l.points))
