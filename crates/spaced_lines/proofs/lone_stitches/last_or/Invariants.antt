use Rattle.std.proofs.Common.{◌≡◌, drop}
use Rattle.step_splitter.specs.Chains.{last_point_or}
use Rattle.spaced_lines.proofs.lone_stitches.last_or.Given as goal

-- the last point so far, or that of those that are left
abbrev pub invariant-loop-p : goal.invariant-loop-p
invariant-loop-p l = last_point_or l.last (drop l.p-index l.points) ≡ last_point_or l.fn.first l.points
