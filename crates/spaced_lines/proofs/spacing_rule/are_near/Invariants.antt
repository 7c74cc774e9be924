use Rattle.std.proofs.Common.{◌≡◌, drop}
use Rattle.spaced_lines.proofs.Names.{list_all, grid_point, is_near}
use Rattle.spaced_lines.proofs.spacing_rule.are_near.Given as goal

-- all points so far are near, and the result depends on those that are left
abbrev pub invariant-loop-p : goal.invariant-loop-p
invariant-loop-p l = record {
  counted : l.index ≡ l.p-index;
  near : list_all (λ p. is_near l.gap (grid_point p) l.s) l.points
      ≡ list_all (λ p. is_near l.gap (grid_point p) l.s) (drop l.p-index l.points);
}
