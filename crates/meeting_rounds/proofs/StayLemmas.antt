-- Lines on whose meetings no round acts.
use Rattle.std.proofs.Common.{◌≡◌, ℕ, Bool, true, false, not, if◌then◌else◌, List, [], ◌∷◌, map, refl, ap, ◌∙◌, sym, subst}
use Rattle.std.specs.List.{list_all}
use Rattle.design_model.proofs.ListLemmas.{false_true, first_true, second_true}
use Rattle.design_model.specs.declared.point.Point.{Point}
use Rattle.line_meetings.specs.Meetings.{meetings_of_lines}
use Rattle.line_meetings.specs.declared.meeting.Meeting.{Meeting}
use Rattle.line_meetings.specs.declared.meeting.MeetingKind.{MeetingKind}
use Rattle.line_meetings.specs.declared.meeting.MeetingKind.TheVariants as meeting
use Rattle.line_sections.specs.Lines.{LineValue}
use Rattle.meeting_rounds.specs.Acts.{PlacedLists, acts_next, acts_on_crossing, acts_on_kind, no_acts}
use Rattle.meeting_rounds.specs.MovedPoints.{tracked_at}
use Rattle.meeting_rounds.specs.RoundLaws.{LinesAtRestStay, UnworkedLinesAreDrawn, is_passed_over, unworked}
use Rattle.meeting_rounds.specs.Rounds.{acts_on_lines_of, are_too_long, round_acts, settled_lines}
use Rattle.meeting_rounds.specs.TrackedLines.{lines_as_worked, tracked_from, tracked_lines, tracked_points}
use Rattle.meeting_rounds.specs.declared.acts.Acts.{Acts}
use Rattle.meeting_rounds.specs.declared.rounds.TheConstants.{MAX_ROUNDS}
use Rattle.meeting_rounds.specs.declared.tracked_lines.TrackedLine.{TrackedLine}
use Rattle.meeting_rounds.specs.declared.tracked_lines.TrackedPoint.{TrackedPoint}
use Rattle.meeting_rounds.proofs.RoundLemmas.{idle_stays}

from_drawn : (p : Point) (rest : List Point) → map (λ (t : TrackedPoint). t.at) (tracked_from p rest) ≡ p ∷ rest
from_drawn p [] = refl
from_drawn p (q ∷ rest) = ap (λ (points : List Point). p ∷ points) (from_drawn q rest)

points_drawn : (points : List Point) → map (λ (t : TrackedPoint). t.at) (tracked_points points) ≡ points
points_drawn [] = refl
points_drawn (p ∷ rest) = from_drawn p rest

-- Lines that are worked on are drawn as they were.
pub lines_drawn : UnworkedLinesAreDrawn
lines_drawn [] = refl
lines_drawn (line ∷ rest) =
    ap (λ (points : List Point). record { block = line.block; points = points } ∷ lines_as_worked (tracked_lines rest))
    (points_drawn line.points)
    ∙ ap (λ (lines : List LineValue). line ∷ lines) (lines_drawn rest)

module _ (lists : Bool) (gap : ℕ) (placed : PlacedLists) (lines : List TrackedLine) where
  kind_idle : (acts : Acts) (m : Meeting) (kind : MeetingKind) → is_passed_over lists kind ≡ true
      → acts_on_kind lists gap placed lines acts m kind ≡ acts
  kind_idle acts m meeting.ClosePoints is = absurd (false_true is)
  kind_idle acts m meeting.BesideSegment is = absurd (false_true is)
  kind_idle acts m meeting.OnSegment is = absurd (false_true is)
  kind_idle acts m meeting.Crossing is = by_test lists is
    where
      by_test : (b : Bool) → not b ≡ true → acts_on_crossing b gap lines acts m ≡ acts
      by_test true never = absurd (false_true never)
      by_test false stays = refl
  kind_idle acts m meeting.Overlap is = refl
  kind_idle acts m meeting.Repeat is = refl

  -- Meetings that are passed over change no acts.
  all_idle : (acts : Acts) (ms : List Meeting) → list_all (λ m. is_passed_over lists m.kind) ms ≡ true
      → acts_next lists gap placed lines acts ms ≡ acts
  all_idle acts [] idle = refl
  all_idle acts (m ∷ rest) idle =
      ap (λ (a : Acts). acts_next lists gap placed lines a rest) (kind_idle acts m m.kind (first_true _ _ idle))
      ∙ all_idle acts rest (second_true _ _ idle)

-- Nothing is done either way.
none_either : (b : Bool) (acts : Acts) → no_acts ≡ acts → no_acts ≡ (if b then no_acts else acts)
none_either true acts none = refl
none_either false acts none = none

-- Lines on whose meetings no round acts stay.
pub lines_stay : LinesAtRestStay
unfolding settled_lines
lines_stay = λ lists gap lines starts ends idle.
    let none : no_acts ≡ round_acts lists gap (tracked_lines lines) =
    none_either (are_too_long (tracked_lines lines)) (acts_on_lines_of lists gap (tracked_lines lines))
    (sym (all_idle lists gap (tracked_at (tracked_lines lines)) (tracked_lines lines) no_acts
    (meetings_of_lines gap (lines_as_worked (tracked_lines lines)))
    (subst (λ (ls : List LineValue). list_all (λ m. is_passed_over lists m.kind) (meetings_of_lines gap ls) ≡ true)
    (sym (lines_drawn lines)) idle))) in
    idle_stays MAX_ROUNDS lists gap (unworked lines starts ends) no_acts none refl
