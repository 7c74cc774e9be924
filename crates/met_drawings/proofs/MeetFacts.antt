-- What the laws of drawings whose lines meet exclude, and worked values, in tenths of a millimetre.
use Rattle.std.proofs.Common.{◌≡◌, ◌≢◌, ◌∙◌, ℕ, pos, true, false, not, List, [], ◌∷◌, map, Result, Ok, refl, ap, sym}
use Rattle.std.specs.List.{list_all}
use Rattle.design_model.proofs.ListLemmas.{false_true, first_true}
use Rattle.design_model.specs.declared.point.Point.{Point}
use Rattle.line_graph.specs.Drawings.{DrawingValue, KeepsDrawingLimits}
use Rattle.line_meetings.specs.declared.meeting.Meeting.{Meeting}
use Rattle.line_meetings.specs.Meetings.{meetings_of_lines}
use Rattle.line_meetings.specs.Telling.{told}
use Rattle.line_sections.specs.declared.spot.Spot.{Spot}
use Rattle.line_sections.specs.Lines.{LineValue}
use Rattle.line_sections.specs.Sections.{lines_through}
use Rattle.met_drawings.specs.declared.listed_meetings.MeetingRule.{MeetingRule}
use Rattle.met_drawings.specs.declared.meet_fault.MeetFault.{MeetFault}
use Rattle.met_drawings.specs.declared.meeting.MetDrawing.{MetDrawing}
use Rattle.met_drawings.specs.Copies.{uncopied_lines}
use Rattle.met_drawings.specs.MeetLaws.{LeftAreFound, NothingLeftIsSilence, SecondRunsChangeNothing, WrittenLinesStayNear, is_near_one, no_counts}
use Rattle.met_drawings.specs.MeetingCounts.{is_left, left_count}
use Rattle.met_drawings.specs.MetDrawings.{met_of}
use Rattle.met_drawings.specs.SegmentLaws.{LinesWithoutCopiesStay}

abbrev at : ℕ → ℕ → Point
at x y = record { x = pos x; y = pos y }

-- near a line as drawn of the same block, with all points near that one
pub known_near : (is_near_one 1 (lines_through 0 ((at 0 0 ∷ at 40 0 ∷ []) ∷ (at 0 9 ∷ at 40 9 ∷ []) ∷ []))
    (record { block = 0; points = at 0 3 ∷ at 20 2 ∷ at 43 0 ∷ [] }) ≡ true)
    × (is_near_one 1 (lines_through 1 ((at 0 0 ∷ at 40 0 ∷ []) ∷ []))
    (record { block = 0; points = at 0 3 ∷ at 43 0 ∷ [] }) ≡ false)
    × (is_near_one 1 (lines_through 0 ((at 0 0 ∷ at 40 0 ∷ []) ∷ (at 0 9 ∷ at 40 9 ∷ []) ∷ []))
    (record { block = 0; points = at 0 3 ∷ at 40 6 ∷ [] }) ≡ false)
    × (is_near_one 1 (lines_through 0 ((at 0 0 ∷ at 40 0 ∷ []) ∷ []))
    (record { block = 0; points = at 0 0 ∷ at 20 3 ∷ at 40 0 ∷ [] }) ≡ false)
known_near = (refl, refl, refl, refl)

-- crossings are counted where nothing else was done
pub known_counts : no_counts (record { gap = 0; lists_crossings = false; keeps_copies = false })
    (lines_through 0 ((at 0 0 ∷ at 10 5 ∷ []) ∷ (at 3 9 ∷ at 4 0 ∷ []) ∷ []))
    ≡ record { crossings = 1; moved = 0; listed = 0; dropped = 0; left = 0 }
unfolding told
known_counts = refl

module _ (rule : MeetingRule) (d : DrawingValue) (starts ends : List Spot) (met : MetDrawing) (limits : KeepsDrawingLimits d)
    (is : met_of rule d starts ends ≡ Ok met) where
  -- no other number of meetings is left than of those found in the lines that are written
  pub refuted_left : LeftAreFound → (n : ℕ) → n ≢ left_count rule met.drawn.lines → met.counts.left ≡ n → ⊥
  refuted_left law n differ counted = differ (sym counted ∙ law rule d starts ends met limits is)

  -- where nothing is left, no meeting is found first that the rule is about
  pub refuted_silence : NothingLeftIsSilence → met.counts.left ≡ 0 → (m : Meeting) (rest : List Meeting)
      → meetings_of_lines rule.gap met.drawn.lines ≡ m ∷ rest → is_left rule m ≡ true → ⊥
  refuted_silence law none m rest found left =
      false_true (sym (ap not left) ∙ first_true _ (list_all (λ n. not (is_left rule n)) rest)
      (sym (ap (list_all (λ n. not (is_left rule n))) found) ∙ law rule d starts ends met limits is none))

  -- a second run has no other result
  pub refuted_second : SecondRunsChangeNothing → met.counts.left ≡ 0 → (other : Result MetDrawing MeetFault)
      → other ≢ Ok (record met { parts = map (λ line. 1) met.drawn.lines; counts = no_counts rule met.drawn.lines })
      → met_of rule met.drawn met.joined.starts met.joined.ends ≡ other → ⊥
  refuted_second law none other differ again = differ (sym again ∙ law rule d starts ends met limits is none)

  -- no line is written first that isn't near one as drawn
  pub refuted_near : WrittenLinesStayNear → (line : LineValue) (rest : List LineValue) → met.drawn.lines ≡ line ∷ rest
      → is_near_one rule.gap d.lines line ≡ false → ⊥
  refuted_near law line rest first apart =
      false_true (sym apart ∙ first_true _ (list_all (is_near_one rule.gap d.lines) rest)
      (sym (ap (list_all (is_near_one rule.gap d.lines)) first) ∙ law rule d starts ends met limits is))

-- lines without copies have no others left
pub refuted_copies : LinesWithoutCopiesStay → (lines other : List LineValue) → other ≢ uncopied_lines lines
    → uncopied_lines (uncopied_lines lines) ≡ other → ⊥
refuted_copies law lines other differ is = differ (sym is ∙ law lines)
