use Rattle.std.proofs.Common.{◌≡◌, ◌++◌, ◌+◌, length}
use Rattle.std.specs.HashMap.{get}
use Rattle.meeting_rounds.specs.FilledLines.{filled_from, is_same_segment}
use Rattle.meeting_rounds.specs.SegmentPlaces.{numbers_at}
use Rattle.meeting_rounds.proofs.filling.filled_after.Given as goal

-- the points so far, and those that are left
abbrev pub invariant-loop-rest : goal.invariant-loop-rest
invariant-loop-rest l = record {
  count : l.segment + length l.rest ≡ length l.after;
  all : l.filled ++ filled_from (numbers_at (get is_same_segment l.places)) l.line l.segment l.p l.rest
      ≡ filled_from (numbers_at (get is_same_segment l.places)) l.line 0 l.fn.first l.after;
}

abbrev pub decreases-loop-rest : goal.decreases-loop-rest
decreases-loop-rest l = length l.rest
