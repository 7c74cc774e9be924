use Rattle.std.proofs.Common.{◌≡◌, ◌-◌, ◌≤◌, All, drop, length}
use Rattle.spaced_lines.specs.BestChoices.{IsWithin, bests_of, room_of}
use Rattle.spaced_lines.specs.SpacedLines.{is_spot_of}
use Rattle.spaced_lines.specs.declared.spacing_rule.TheConstants.{MAX_LEFT_OUT}
use Rattle.line_sections.specs.Spots.{is_same_spot}
use Rattle.std.specs.HashSet.{contains}
use Rattle.spaced_lines.proofs.best_choices.bests.Given as goal

-- the best choices from the point with the index i on are in the table
abbrev pub invariant-loop-i : goal.invariant-loop-i
invariant-loop-i l = record {
  below : l.i ≤ length l.points;
  sized : length l.bests.items ≡ length l.points;
  most : l.room ≤ MAX_LEFT_OUT;
  room : l.room ≡ room_of (is_spot_of (contains is_same_spot l.spots) l.block) (drop l.i l.points);
  within : All (IsWithin (length l.points - l.i)) (drop l.i l.bests.items);
  table : drop l.i l.bests.items ≡ bests_of (is_spot_of (contains is_same_spot l.spots) l.block) l.rule (drop l.i l.points);
}

abbrev pub decreases-loop-i : goal.decreases-loop-i
decreases-loop-i l = l.i
