use Rattle.std.proofs.Common.{◌≡◌, ◌+◌, ◌<◌, ◌≤◌, Bool, length}
use Rattle.design_model.specs.declared.point.Point.{Point}
use Rattle.spaced_lines.specs.BestChoices.{IsWithin, best_leaving, room_of}
use Rattle.spaced_lines.proofs.best_choices.best_beyond.Given as goal

-- the best choice so far is that of the stitches that leave out more points than are left, and of the first one
abbrev pub invariant-loop-tried : goal.invariant-loop-tried
invariant-loop-tried l = record {
  below : l.tried.left < length l.after;
  room : l.tried.left ≤ l.room;
  within : IsWithin (length l.after + 1) l.tried.best;
  best : (stays : Point → Bool) → l.room ≡ room_of stays l.after
      → l.tried.best ≡ best_leaving stays l.rule l.p l.fn.nearest l.after l.bests (l.tried.left + 1);
}

abbrev pub decreases-loop-tried : goal.decreases-loop-tried
decreases-loop-tried l = l.tried.left
