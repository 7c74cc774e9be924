-- Lines stay near themselves as drawn in all rounds.
use Rattle.std.proofs.Common.{◌≡◌, ◌+◌, ◌*◌, ℕ, zero, suc, Bool, true, false, inr, All, List, [], ◌∷◌, drop, Option, Some, None, refl, ap, subst, arith}
use Rattle.std.proofs.lemmas.Bool.Decides.{nat_tests}
use Rattle.std.proofs.lemmas.List.Elements.{All-cons, All-nil}
use Rattle.std.specs.Prelude.{if◌then◌else◌}
use Rattle.design_model.specs.declared.point.Point.{Point}
use Rattle.drawing_review.specs.declared.grid_point.GridPoint.{GridPoint}
use Rattle.drawing_review.specs.Frames.{grid_point}
use Rattle.line_meetings.specs.Meetings.{meetings_of_lines}
use Rattle.line_sections.specs.Lines.{LineValue}
use Rattle.meeting_rounds.proofs.PutLemmas.{HasPuts, MayBePut, NearFirst, NearIn, puts_may_be, puts_near}
use Rattle.meeting_rounds.specs.Acts.{no_acts}
use Rattle.meeting_rounds.specs.FilledLines.{filled_lines, filled_points, places_put}
use Rattle.meeting_rounds.specs.MovedPoints.{lines_moved, merged_points, points_moved, tracked_at}
use Rattle.meeting_rounds.specs.NearLines.{LinesStayNear}
use Rattle.meeting_rounds.specs.PointBounds.{bounds_of_point, reaches_bounds}
use Rattle.meeting_rounds.specs.RoundLaws.{RoundsKeepLinesNear, unworked}
use Rattle.meeting_rounds.specs.Rounds.{acts_on_lines_of, after_rounds, are_too_long, lines_after, round_acts, settled_lines, worked_by}
use Rattle.meeting_rounds.specs.TrackedLines.{lines_as_worked, tracked_from, tracked_lines, tracked_points}
use Rattle.meeting_rounds.specs.declared.acts.Acts.{Acts}
use Rattle.meeting_rounds.specs.declared.rounds.TheConstants.{MAX_ROUNDS}
use Rattle.meeting_rounds.specs.declared.rounds.WorkedLines.{WorkedLines}
use Rattle.meeting_rounds.specs.declared.segment_places.SegmentKey.{SegmentKey}
use Rattle.meeting_rounds.specs.declared.spot_moves.SpotMove.{SpotMove}
use Rattle.meeting_rounds.specs.declared.tracked_lines.TrackedLine.{TrackedLine}
use Rattle.meeting_rounds.specs.declared.tracked_lines.TrackedPoint.{TrackedPoint}
use Rattle.meeting_rounds.proofs.TrackLemmas.{AreNear, Has, IsIn, Tracks, filled_tracks, merged_tracks, moved_tracks, tracks_near}

-- a line that is worked on keeps near itself as drawn
abbrev TracksLine : (gap : ℕ) → (drawn : List Point) → List TrackedPoint → Type 0
TracksLine gap drawn points = Tracks gap None drawn points

line_filled : (gap : ℕ) (places : SegmentKey → List ℕ) (line : ℕ) (drawn : List Point) (points : List TrackedPoint)
    → AreNear gap places line 0 points → TracksLine gap drawn points → TracksLine gap drawn (filled_points places line points)
line_filled gap places line drawn [] near tracks = tracks
line_filled gap places line drawn (p ∷ points) near tracks = filled_tracks gap places line 0 None drawn p points near tracks

line_merged : (gap : ℕ) (drawn : List Point) (points : List TrackedPoint) → TracksLine gap drawn points
    → TracksLine gap drawn (merged_points points)
line_merged gap drawn [] tracks = tracks
line_merged gap drawn (p ∷ points) tracks = merged_tracks gap None drawn p points tracks

-- lines that are worked on keep near themselves as drawn
abbrev TracksLines : (gap : ℕ) → (drawn : List LineValue) → List TrackedLine → Type 0
TracksLines gap [] lines = lines ≡ []
TracksLines gap (line ∷ drawn) [] = ⊥
TracksLines gap (line ∷ drawn) (worked ∷ lines) = (worked.block ≡ line.block)
    × TracksLine gap line.points worked.points × TracksLines gap drawn lines

-- The numbers put into each segment of lines, from a line on, are near it.
abbrev AreAllNear : (gap : ℕ) → (SegmentKey → List ℕ) → (index : ℕ) → List TrackedLine → Type 0
AreAllNear gap places index lines = (i m : ℕ) → m ≡ index + i → (k : ℕ)
    → All (λ n. NearIn gap k n (drop i lines)) (places (record { line = m; segment = k }))

-- After a round lines keep near.
round_tracks : (gap : ℕ) (moves : List SpotMove) (places : SegmentKey → List ℕ) (index : ℕ) (drawn : List LineValue)
    (lines : List TrackedLine) → AreAllNear gap places index lines → TracksLines gap drawn lines
    → TracksLines gap drawn (lines_moved gap moves (filled_lines places index lines))
round_tracks gap moves places index [] lines near none =
    ap (λ (ls : List TrackedLine). lines_moved gap moves (filled_lines places index ls)) none
round_tracks gap moves places index (line ∷ drawn) [] near never = absurd never
round_tracks gap moves places index (line ∷ drawn) (worked ∷ lines) near (block, tracks, others) = (
  block,
  line_merged gap line.points (points_moved gap moves worked.block (filled_points places index worked.points))
      (moved_tracks gap moves worked.block None line.points (filled_points places index worked.points)
      (line_filled gap places index line.points worked.points
      (λ k j is. subst (λ (m : ℕ). All (λ n. NearFirst gap n (drop k worked.points)) (places (record { line = index; segment = m })))
      (let back : k ≡ j = omega (arith, is) in back)
      (near 0 index (let same : index ≡ index + 0 = omega arith in same) k)) tracks)),
  round_tracks gap moves places (index + 1) drawn lines (λ i m is k. near (suc i) m (omega (arith, is)) k) others,
)

acts_tracks : (gap : ℕ) (drawn : List LineValue) (lines : List TrackedLine) (acts : Acts) → HasPuts gap lines acts
    → TracksLines gap drawn lines → TracksLines gap drawn (lines_after gap acts lines)
acts_tracks gap drawn lines acts has tracks =
    round_tracks gap acts.moves (places_put acts.puts) 0 drawn lines
    (λ i m is k. subst (λ (l : ℕ). All (λ n. NearIn gap k n (drop i lines)) (places_put acts.puts (record { line = l; segment = k })))
    (let back : i ≡ m = omega (arith, is) in back) (puts_near gap lines acts.puts has i k)) tracks

puts_either : (gap : ℕ) (lines : List TrackedLine) (b : Bool) (acts : Acts) → HasPuts gap lines acts
    → HasPuts gap lines (if b then no_acts else acts)
puts_either gap lines true acts has = All-nil (MayBePut gap lines)
puts_either gap lines false acts has = has

rounds_track : (rounds : ℕ) (lists : Bool) (gap : ℕ) (drawn : List LineValue) (worked : WorkedLines) → TracksLines gap drawn worked.lines
    → TracksLines gap drawn (after_rounds rounds lists gap worked).lines
rounds_track zero lists gap drawn worked tracks = tracks
rounds_track (suc n) lists gap drawn worked tracks = by_test acts.is_idle
    (rounds_track n lists gap drawn (worked_by gap acts worked)
    (acts_tracks gap drawn worked.lines acts
    (puts_either gap worked.lines (are_too_long worked.lines) (acts_on_lines_of lists gap worked.lines)
    (puts_may_be lists gap (tracked_at worked.lines) worked.lines no_acts (meetings_of_lines gap (lines_as_worked worked.lines))
    (All-nil (MayBePut gap worked.lines)))) tracks))
  where
    acts : Acts
    acts = round_acts lists gap worked.lines

    by_test : (b : Bool) → TracksLines gap drawn (after_rounds n lists gap (worked_by gap acts worked)).lines
        → TracksLines gap drawn (if b then worked else after_rounds n lists gap (worked_by gap acts worked)).lines
    by_test true later = tracks
    by_test false later = later

-- Lines as they are drawn are near themselves.
near_itself : (reach : ℕ) (g : GridPoint) → reaches_bounds reach (bounds_of_point g) g ≡ true
near_itself reach g = grind (arith, nat_tests)

in_itself : (g : GridPoint) → IsIn (bounds_of_point g) g
in_itself g = record { left = omega arith; right = omega arith; top = omega arith; bottom = omega arith }

drawn_tracks : (gap : ℕ) (from : Option Point) (p : Point) (rest : List Point) → Tracks gap from (p ∷ rest) (tracked_from p rest)
drawn_tracks gap from p [] = inr (
  p,
  [],
  [],
  bounds_of_point (grid_point p),
  record {
    drawn = refl;
    next = refl;
    has = All-cons (Has (bounds_of_point (grid_point p))) p [] (in_itself (grid_point p)) (All-nil (Has (bounds_of_point (grid_point p))));
    near = near_itself (2 * gap + 1) (grid_point p);
    begins = refl;
    ends = tt;
  },
  refl,
)
drawn_tracks gap from p (q ∷ rest) = inr (
  p,
  [],
  q ∷ rest,
  bounds_of_point (grid_point p),
  record {
    drawn = refl;
    next = refl;
    has = All-cons (Has (bounds_of_point (grid_point p))) p [] (in_itself (grid_point p)) (All-nil (Has (bounds_of_point (grid_point p))));
    near = near_itself (2 * gap + 1) (grid_point p);
    begins = refl;
    ends = refl;
  },
  drawn_tracks gap (Some p) q rest,
)

line_drawn : (gap : ℕ) (points : List Point) → TracksLine gap points (tracked_points points)
line_drawn gap [] = refl
line_drawn gap (p ∷ rest) = drawn_tracks gap None p rest

drawn_lines_track : (gap : ℕ) (lines : List LineValue) → TracksLines gap lines (tracked_lines lines)
drawn_lines_track gap [] = refl
drawn_lines_track gap (line ∷ rest) = (refl, line_drawn gap line.points, drawn_lines_track gap rest)

tracked_near : (gap : ℕ) (drawn : List LineValue) (lines : List TrackedLine) → TracksLines gap drawn lines
    → LinesStayNear gap drawn (lines_as_worked lines)
tracked_near gap [] lines none = ap lines_as_worked none
tracked_near gap (line ∷ drawn) [] never = never
tracked_near gap (line ∷ drawn) (worked ∷ lines) (block, tracks, others) =
    (block, tracks_near gap None line.points worked.points tracks, tracked_near gap drawn lines others)

-- After all rounds lines stay near themselves as drawn.
pub lines_near : RoundsKeepLinesNear
unfolding settled_lines
lines_near = λ lists gap lines starts ends. tracked_near gap lines _
    (rounds_track MAX_ROUNDS lists gap lines (unworked lines starts ends) (drawn_lines_track gap lines))
