use Rattle.std.proofs.Common.{◌≡◌, ◌≤◌, ◌++◌, length, map}
use Rattle.line_graph.specs.declared.limits.TheConstants.{MAX_POINTS}
use Rattle.spaced_lines.proofs.Names.{contains, is_same_spot, point_count, spaced_line}
use Rattle.spaced_lines.proofs.spacing.spaced.Given as goal

-- the lines so far, and those that are left once they are spaced, are all
abbrev pub invariant-loop-rest : goal.invariant-loop-rest
invariant-loop-rest l = record {
  few : point_count l.rest ≤ MAX_POINTS;
  lines : l.spaced.items ++ map (spaced_line (contains is_same_spot l.spots) l.rule) l.rest
      ≡ map (spaced_line (contains is_same_spot l.spots) l.rule) l.lines;
}

abbrev pub decreases-loop-rest : goal.decreases-loop-rest
decreases-loop-rest l = length l.rest
