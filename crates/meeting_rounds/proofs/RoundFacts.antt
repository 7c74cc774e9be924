-- Worked values of rounds, in tenths of a millimetre.
use Rattle.std.proofs.Common.{◌≡◌, ℕ, pos, Bool, true, false, nat_lt, if◌then◌else◌, List, [], ◌∷◌, ◌++◌, map, sum_by, refl, ap}
use Rattle.design_model.specs.declared.point.Point.{Point}
use Rattle.line_meetings.specs.Telling.{told}
use Rattle.line_sections.specs.declared.spot.Spot.{Spot}
use Rattle.line_sections.specs.Lines.{LineValue}
use Rattle.line_sections.specs.Sections.{lines_through}
use Rattle.line_meetings.specs.declared.meeting.MeetingKind.TheVariants as meeting
use Rattle.meeting_rounds.specs.RoundLaws.{is_passed_over}
use Rattle.meeting_rounds.specs.Acts.{no_acts}
use Rattle.meeting_rounds.specs.Rounds.{acts_on_lines_of, after_rounds, are_too_long, round_acts}
use Rattle.meeting_rounds.specs.TrackedLines.{lines_as_worked, tracked_lines}
use Rattle.meeting_rounds.specs.declared.rounds.TheConstants.{MAX_ROUND_POINTS}
use Rattle.meeting_rounds.specs.declared.rounds.WorkedLines.{WorkedLines}
use Rattle.meeting_rounds.specs.declared.tracked_lines.TrackedLine.{TrackedLine}

abbrev at : ℕ → ℕ → Point
at x y = record { x = pos x; y = pos y }

abbrev worked : (rounds : ℕ) → Bool → (gap : ℕ) → List LineValue → List Spot → WorkedLines
worked rounds lists gap lines starts =
    after_rounds rounds lists gap (record { lines = tracked_lines lines; starts = starts; ends = [] })

abbrev Crosses : (rounds : ℕ) → (lines after : List LineValue) → Type 0
Crosses rounds lines after = lines_as_worked (worked rounds true 0 lines []).lines ≡ after

abbrev Snaps : (rounds gap : ℕ) → (lines after : List LineValue) → Type 0
Snaps rounds gap lines after = lines_as_worked (worked rounds false gap lines []).lines ≡ after

-- both lines list the nearest whole point of their crossing, where crossings are listed
abbrev crossed : List LineValue
crossed = lines_through 0 ((at 0 0 ∷ at 10 5 ∷ []) ∷ (at 3 9 ∷ at 4 0 ∷ []) ∷ [])

pub known_crossing : Crosses 2 crossed
    (lines_through 0 ((at 0 0 ∷ at 4 2 ∷ at 10 5 ∷ []) ∷ (at 3 9 ∷ at 4 2 ∷ at 4 0 ∷ []) ∷ [])) × Snaps 2 0 crossed crossed
unfolding told
known_crossing = (refl, refl)

-- lines of two blocks never meet
pub known_blocks : Crosses 2 (lines_through 0 ((at 0 0 ∷ at 10 5 ∷ []) ∷ []) ++ lines_through 1 ((at 3 9 ∷ at 4 0 ∷ []) ∷ []))
    (lines_through 0 ((at 0 0 ∷ at 10 5 ∷ []) ∷ []) ++ lines_through 1 ((at 3 9 ∷ at 4 0 ∷ []) ∷ []))
unfolding told
known_blocks = refl

-- an end that lies on a segment, and an overlap, whose ends both lines list
pub known_on_segments : Snaps 2 0 (lines_through 0 ((at 0 0 ∷ at 40 20 ∷ []) ∷ (at 20 40 ∷ at 20 10 ∷ []) ∷ []))
    (lines_through 0 ((at 0 0 ∷ at 20 10 ∷ at 40 20 ∷ []) ∷ (at 20 40 ∷ at 20 10 ∷ []) ∷ []))
    × Snaps 2 0 (lines_through 0 ((at 0 0 ∷ at 40 0 ∷ []) ∷ (at 30 0 ∷ at 60 0 ∷ []) ∷ []))
    (lines_through 0 ((at 0 0 ∷ at 30 0 ∷ at 40 0 ∷ []) ∷ (at 30 0 ∷ at 40 0 ∷ at 60 0 ∷ []) ∷ []))
unfolding told
known_on_segments = (refl, refl)

-- an end moves onto the line, and not the line to the end: from both sides, and not beyond the gap
pub known_ends : Snaps 2 2 (lines_through 0 ((at 0 10 ∷ at 40 10 ∷ []) ∷ (at 20 12 ∷ at 20 40 ∷ []) ∷ (at 20 8 ∷ at 20 0 ∷ []) ∷ []))
    (lines_through 0 ((at 0 10 ∷ at 20 10 ∷ at 40 10 ∷ []) ∷ (at 20 10 ∷ at 20 40 ∷ []) ∷ (at 20 10 ∷ at 20 0 ∷ []) ∷ []))
    × Snaps 1 1 (lines_through 0 ((at 0 10 ∷ at 40 10 ∷ []) ∷ (at 20 12 ∷ at 20 40 ∷ []) ∷ []))
    (lines_through 0 ((at 0 10 ∷ at 40 10 ∷ []) ∷ (at 20 12 ∷ at 20 40 ∷ []) ∷ []))
unfolding told
known_ends = (refl, refl)

-- two points become one, and a start moves with its point; that of another block stays
pub known_starts : (worked 1 false 2 (lines_through 0 ((at 0 0 ∷ at 20 0 ∷ []) ∷ (at 22 1 ∷ at 40 20 ∷ []) ∷ []))
    (record { block = 0; at = at 20 0 } ∷ record { block = 1; at = at 20 0 } ∷ [])).starts
    ≡ record { block = 0; at = at 22 1 } ∷ record { block = 1; at = at 20 0 } ∷ []
unfolding told
known_starts = refl

-- with no round nothing changes
pub known_none : Crosses 0 crossed crossed
known_none = refl

-- rounds pass over repeats and overlaps, and over crossings unless these are listed
pub known_passed : (is_passed_over true meeting.Repeat ≡ true) × (is_passed_over true meeting.Overlap ≡ true)
    × (is_passed_over false meeting.Crossing ≡ true) × (is_passed_over true meeting.Crossing ≡ false)
    × (is_passed_over false meeting.ClosePoints ≡ false) × (is_passed_over false meeting.BesideSegment ≡ false)
    × (is_passed_over false meeting.OnSegment ≡ false)
known_passed = (refl, refl, refl, refl, refl, refl, refl)

-- Rounds are for as many points as a drawing may have, and on longer lines nothing is done.
pub known_round_points : MAX_ROUND_POINTS ≡ 65536
known_round_points = refl

pub known_too_long : map (λ counts. nat_lt MAX_ROUND_POINTS (sum_by (λ n. n) counts)) ((65536 ∷ []) ∷ (65536 ∷ 1 ∷ []) ∷ [])
    ≡ false ∷ true ∷ []
known_too_long = refl

pub long_lines_rest : (lists : Bool) (gap : ℕ) (lines : List TrackedLine) → are_too_long lines ≡ true → round_acts lists gap lines ≡ no_acts
long_lines_rest lists gap lines long = ap (λ (b : Bool). if b then no_acts else acts_on_lines_of lists gap lines) long
