use Rattle.std.proofs.Common.{◌≡◌, ◌++◌, ◌+◌, length}
use Rattle.std.specs.HashMap.{get}
use Rattle.meeting_rounds.specs.FilledLines.{filled_lines, is_same_segment}
use Rattle.meeting_rounds.specs.SegmentPlaces.{numbers_at}
use Rattle.meeting_rounds.proofs.filling.filled.Given as goal

-- the lines so far, and those that are left
abbrev pub invariant-loop-rest : goal.invariant-loop-rest
invariant-loop-rest l = record {
  count : l.index + length l.rest ≡ length l.lines;
  all : l.filled.items ++ filled_lines (numbers_at (get is_same_segment l.places)) l.index l.rest
      ≡ filled_lines (numbers_at (get is_same_segment l.places)) 0 l.lines;
}

abbrev pub decreases-loop-rest : goal.decreases-loop-rest
decreases-loop-rest l = length l.rest
