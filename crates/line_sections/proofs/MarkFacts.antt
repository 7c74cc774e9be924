-- Worked marks of the points that blocks list, and what marks and the theorems on sections state.
use Rattle.std.proofs.Common.{◌≡◌, ℕ, pos, Bool, true, false, List, [], ◌∷◌, ◌++◌, cond, None, Some, refl}
use Rattle.line_sections.proofs.Names.{AreCutMarks, AreMarked, AreMarksOf, Marks, MarksSpot, Point, SetsMark, Spot, LineValue, all_sections, are_whole_lines, count_by, flat_map, is_cut_by, is_listed_again, is_same_point, is_same_spot, lines_through, mark_of, sections_by, sections_continued, sections_of, segments_of, spot_at, spots_of}
use Rattle.line_sections.specs.ListedPoints.{MarksLine}
use Rattle.line_sections.specs.Sections.{SectionsAreWhole, SectionsKeepSegments}

abbrev at : ℕ → ℕ → Point
at x y = record { x = pos x; y = pos y }

-- two spots of block 1, and one of block 0
abbrev first : Spot
first = record { block = 1; at = at 3 4 }

abbrev second : Spot
second = record { block = 1; at = at 5 6 }

abbrev elsewhere : Spot
elsewhere = record { block = 0; at = at 3 4 }

abbrev line : LineValue
line = record { block = 1; points = at 3 4 ∷ at 5 6 ∷ [] }

pub known_spots_of : spots_of line ≡ first ∷ second ∷ []
known_spots_of = refl

-- the first spot alone is listed again
abbrev marks : Marks
marks spot = cond (is_same_spot first spot) (Some true) (Some false)

pub known_cuts : (is_cut_by marks 1 (at 3 4) ≡ true) × (is_cut_by marks 1 (at 5 6) ≡ false) × (is_cut_by marks 0 (at 3 4) ≡ false)
known_cuts = (refl, refl, refl)

-- a line is cut by the marks of its own block
pub known_sections : (sections_by marks (record { block = 1; points = at 0 0 ∷ at 3 4 ∷ at 9 9 ∷ [] })
    ≡ lines_through 1 ((at 0 0 ∷ at 3 4 ∷ []) ∷ (at 3 4 ∷ at 9 9 ∷ []) ∷ []))
    × (sections_by marks (record { block = 0; points = at 0 0 ∷ at 3 4 ∷ at 9 9 ∷ [] })
    ≡ lines_through 0 ((at 0 0 ∷ at 3 4 ∷ at 9 9 ∷ []) ∷ []))
known_sections = (refl, refl)

-- a section that was begun ends at a cut, but not at the line's last point
abbrev continued : List Point → List (List Point)
continued points = sections_continued (is_same_point (at 3 4)) (at 0 0 ∷ at 1 1 ∷ []) points

pub known_continued : (continued (at 3 4 ∷ at 9 9 ∷ []) ≡ (at 0 0 ∷ at 1 1 ∷ at 3 4 ∷ []) ∷ (at 3 4 ∷ at 9 9 ∷ []) ∷ [])
    × (continued (at 3 4 ∷ []) ≡ (at 0 0 ∷ at 1 1 ∷ at 3 4 ∷ []) ∷ [])
known_continued = (refl, refl)

-- marks by the number of times that a spot is listed
pub known_marks_of : (some : Marks) → AreMarksOf (first ∷ second ∷ first ∷ []) some
    → (some first ≡ Some true) × (some second ≡ Some false) × (some elsewhere ≡ None)
known_marks_of some are = (are first, are second, are elsewhere)

-- the spots that are marked come before those left, and no others are marked
pub known_marked : (all left : List Spot) (some : Marks) (are : AreMarked all left some)
    → (are.before ++ left ≡ all) × ((spot : Spot) → some spot ≡ mark_of (count_by (is_same_spot spot) are.before))
known_marked all left some are = (are.split, are.marked)

-- a step sets one mark, and keeps all others
pub known_set : (old new : Marks) → SetsMark first true old new
    → (new first ≡ Some true) × (new second ≡ old second) × (new elsewhere ≡ old elsewhere)
known_set old new sets = (sets first, sets second, sets elsewhere)

-- steps by one spot, and by the spots of a line
pub known_spot_step : (old new : Marks) → MarksSpot first old new
    → AreMarked (first ∷ elsewhere ∷ []) (first ∷ elsewhere ∷ []) old → AreMarked (first ∷ elsewhere ∷ []) (elsewhere ∷ []) new
known_spot_step old new step = step (first ∷ elsewhere ∷ []) (elsewhere ∷ [])

pub known_line_step : (old new : Marks) → MarksLine line old new
    → AreMarked (first ∷ second ∷ elsewhere ∷ []) (first ∷ second ∷ elsewhere ∷ []) old
    → AreMarked (first ∷ second ∷ elsewhere ∷ []) (elsewhere ∷ []) new
known_line_step old new step = step (first ∷ second ∷ elsewhere ∷ []) (elsewhere ∷ [])

-- marks that decide where lines are cut: at the point that two lines of a block list
pub known_cut_marks : (some : Marks) → AreCutMarks (lines_through 1 ((at 0 4 ∷ at 3 4 ∷ []) ∷ (at 3 0 ∷ at 3 4 ∷ []) ∷ [])) some
    → (is_listed_again (some first) ≡ true) × (is_listed_again (some (spot_at 1 (at 0 4))) ≡ false)
    × (is_listed_again (some elsewhere) ≡ false)
known_cut_marks some are = (are.cut 1 (at 3 4), are.cut 1 (at 0 4), are.cut 0 (at 3 4))

-- the theorem on segments, for a line of two segments and any cuts
pub known_kept_segments : SectionsKeepSegments → (is_cut : Point → Bool) (p q r : Point)
    → flat_map segments_of (sections_of is_cut (p ∷ q ∷ r ∷ [])) ≡ (p, q) ∷ (q, r) ∷ []
known_kept_segments law is_cut p q r = law is_cut (p ∷ q ∷ r ∷ [])

-- the theorem on whole sections, for two lines of any points
pub known_whole_sections : SectionsAreWhole → (p q r s t u : Point)
    → are_whole_lines (all_sections (lines_through 0 ((p ∷ q ∷ r ∷ []) ∷ (s ∷ t ∷ u ∷ []) ∷ []))) ≡ true
known_whole_sections law p q r s t u = law (lines_through 0 ((p ∷ q ∷ r ∷ []) ∷ (s ∷ t ∷ u ∷ []) ∷ []))
