use Rattle.std.proofs.Common.{◌≡◌, drop}
use Rattle.std.specs.HashMap.{get}
use Rattle.meeting_rounds.specs.FilledLines.{is_same_segment, places_put, places_with}
use Rattle.meeting_rounds.specs.SegmentPlaces.{numbers_at}
use Rattle.meeting_rounds.specs.declared.segment_places.SegmentKey.{SegmentKey}
use Rattle.meeting_rounds.proofs.segment_places.places_by_segment.Given as goal

-- the numbers so far, with those of the puts that are left
abbrev pub invariant-loop-put : goal.invariant-loop-put
invariant-loop-put l = (s : SegmentKey) → places_with s (numbers_at (get is_same_segment l.places) s) (drop l.put-index l.puts)
    ≡ places_put l.puts s
