-- Worked values of moves, in tenths of a millimetre.
use Rattle.std.proofs.Common.{◌≡◌, ℕ, pos, true, false, List, [], ◌∷◌, Some, None, refl}
use Rattle.design_model.specs.declared.point.Point.{Point}
use Rattle.drawing_review.specs.Frames.{grid_point}
use Rattle.line_meetings.specs.declared.meeting.Meeting.{Meeting}
use Rattle.line_meetings.specs.declared.meeting.MeetingKind.TheVariants as meeting
use Rattle.line_sections.specs.declared.spot.Spot.{Spot}
use Rattle.line_sections.specs.Sections.{lines_through}
use Rattle.meeting_rounds.specs.Acts.{acts_next, no_acts}
use Rattle.meeting_rounds.specs.MovedPoints.{may_move, merged_points, target_in, tracked_at}
use Rattle.meeting_rounds.specs.PointBounds.{reaches_bounds, united_drawn}
use Rattle.meeting_rounds.specs.TrackedLines.{tracked_lines, tracked_point}
use Rattle.meeting_rounds.specs.declared.point_bounds.PointBounds.{PointBounds}
use Rattle.meeting_rounds.specs.declared.tracked_lines.TrackedLine.{TrackedLine}
use Rattle.meeting_rounds.specs.declared.tracked_lines.TrackedPoint.{TrackedPoint}

abbrev at : ℕ → ℕ → Point
at x y = record { x = pos x; y = pos y }

abbrev bounds : (p q : Point) → PointBounds
bounds p q = record { least = grid_point p; greatest = grid_point q }

-- within the distance of the farthest one, on each axis
pub known_reach : (reaches_bounds 5 (bounds (at 10 20) (at 12 21)) (grid_point (at 15 25)) ≡ true)
    × (reaches_bounds 5 (bounds (at 10 20) (at 12 21)) (grid_point (at 16 20)) ≡ false)
    × (reaches_bounds 5 (bounds (at 10 20) (at 12 21)) (grid_point (at 6 20)) ≡ false)
    × (reaches_bounds 5 (bounds (at 10 20) (at 12 21)) (grid_point (at 12 26)) ≡ false)
    × (reaches_bounds 5 (bounds (at 10 20) (at 12 21)) (grid_point (at 12 15)) ≡ false)
    × (reaches_bounds 5 (bounds (at 10 20) (at 12 21)) (grid_point (at 7 16)) ≡ true)
known_reach = (refl, refl, refl, refl, refl, refl)

-- a point that was put stands for none
pub known_united : (united_drawn (Some (bounds (at 1 9) (at 3 9))) (Some (bounds (at 2 4) (at 2 8))) ≡ Some (bounds (at 1 4) (at 3 9)))
    × (united_drawn None (Some (bounds (at 1 2) (at 3 4))) ≡ Some (bounds (at 1 2) (at 3 4)))
    × (united_drawn (Some (bounds (at 1 2) (at 3 4))) None ≡ Some (bounds (at 1 2) (at 3 4)))
known_united = (refl, refl, refl)

-- a point as drawn moves by twice the gap and 1; one that was put stays within the gap and 1 of its segment
abbrev put_point : TrackedPoint
put_point = record { at = at 20 1; from = at 0 0; to = at 40 0; drawn = None }

pub known_moves : (may_move 2 (at 5 5) (tracked_point (at 0 0) (at 40 0)) ≡ true)
    × (may_move 2 (at 6 0) (tracked_point (at 0 0) (at 40 0)) ≡ false)
    × (may_move 2 (at 20 3) put_point ≡ true) × (may_move 2 (at 20 4) put_point ≡ false)
known_moves = (refl, refl, refl, refl)

-- points at one place become one, which has the segment of the last and stands for all
pub known_merged : merged_points (record (tracked_point (at 0 0) (at 9 0)) { at = at 5 0 }
    ∷ record (tracked_point (at 9 0) (at 9 9)) { at = at 5 0 } ∷ tracked_point (at 9 9) (at 9 9) ∷ [])
    ≡ record { at = at 5 0; from = at 9 0; to = at 9 9; drawn = Some (bounds (at 0 0) (at 9 0)) } ∷ tracked_point (at 9 9) (at 9 9) ∷ []
known_merged = refl

abbrev spot : ℕ → Point → Spot
spot block p = record { block = block; at = p }

-- the move of a spot of that block
pub known_targets : (target_in (record { from = spot 1 (at 3 4); to = at 5 6 } ∷ []) (spot 1 (at 3 4)) ≡ Some (at 5 6))
    × (target_in (record { from = spot 1 (at 3 4); to = at 5 6 } ∷ []) (spot 0 (at 3 4)) ≡ None)
    × (target_in (record { from = spot 1 (at 3 4); to = at 5 6 } ∷ []) (spot 1 (at 4 4)) ≡ None)
known_targets = (refl, refl, refl)

-- two lines whose ends are at one place of two blocks
abbrev lines : List TrackedLine
lines = tracked_lines (lines_through 0 ((at 0 0 ∷ at 20 0 ∷ []) ∷ (at 22 1 ∷ at 40 20 ∷ []) ∷ []))

abbrev close : (from to : Point) → Meeting
close from to = record {
  kind = meeting.ClosePoints;
  block = 0;
  line = 0;
  index = 1;
  is_end = true;
  other = 1;
  other_index = 0;
  from = from;
  to = to;
  distance = 2;
}

-- a point moves once, not to where one has left, and not where one came to
pub known_once : ((acts_next false 2 (tracked_at lines) lines no_acts (close (at 20 0) (at 22 1) ∷ close (at 20 0) (at 18 0) ∷ [])).moves
    ≡ record { from = spot 0 (at 20 0); to = at 22 1 } ∷ [])
    × ((acts_next false 2 (tracked_at lines) lines no_acts (close (at 20 0) (at 22 1) ∷ close (at 22 1) (at 23 1) ∷ [])).moves
    ≡ record { from = spot 0 (at 20 0); to = at 22 1 } ∷ [])
    × ((acts_next false 2 (tracked_at lines) lines no_acts (close (at 20 0) (at 22 1) ∷ close (at 19 0) (at 20 0) ∷ [])).moves
    ≡ record { from = spot 0 (at 20 0); to = at 22 1 } ∷ [])
    × ((acts_next false 2 (tracked_at lines) lines no_acts (close (at 20 0) (at 26 0) ∷ [])).moves ≡ [])
known_once = (refl, refl, refl, refl)
