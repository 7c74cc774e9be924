use Rattle.std.proofs.Common.{◌≡◌}
use Rattle.meeting_rounds.specs.Rounds.{after_rounds}
use Rattle.meeting_rounds.proofs.rounds.after.Given as goal

-- the rounds that are left lead to the same lines
abbrev pub invariant-loop-left : goal.invariant-loop-left
invariant-loop-left l = after_rounds l.left l.lists_crossings l.gap l.worked
    ≡ after_rounds l.rounds l.lists_crossings l.gap l.fn.worked

abbrev pub decreases-loop-left : goal.decreases-loop-left
decreases-loop-left l = l.left
