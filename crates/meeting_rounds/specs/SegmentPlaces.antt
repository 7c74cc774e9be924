-- The numbers of the points put into each segment, as a map has them. No public clause of other
-- crates cites this file.
use Rattle.std.specs.Prelude.{◌≡◌, ℕ, List, [], Option, Some, None, if◌then◌else◌}
use Rattle.std.specs.BTreeSet.{BTreeSet, insert_key}
use Rattle.std.specs.Ordering.{nat_cmp}
use Rattle.meeting_rounds.specs.declared.puts.Put.{Put}
use Rattle.meeting_rounds.specs.declared.segment_places.SegmentKey.{SegmentKey}
use Rattle.meeting_rounds.specs.FilledLines.{is_same_segment, segment_of_put}

-- The numbers that a set holds, or none.
abbrev pub numbers_of : Option (BTreeSet ℕ) → List ℕ
numbers_of None = []
numbers_of (Some set) = set.keys

-- The numbers of each segment, if it has any.
abbrev pub KeptPlaces : Type 0
KeptPlaces = SegmentKey → Option (BTreeSet ℕ)

-- The numbers of a segment.
abbrev pub numbers_at : KeptPlaces → SegmentKey → List ℕ
numbers_at places s = numbers_of (places s)

-- A step adds the number of a put to its segment, at its place in the order unless it is there.
abbrev pub AddsPlace : Put → KeptPlaces → KeptPlaces → Type 0
AddsPlace put old new = (s : SegmentKey) → numbers_at new s
    ≡ (if is_same_segment (segment_of_put put) s then insert_key nat_cmp
    (numbers_at old s) put.place
    else numbers_at old s)
