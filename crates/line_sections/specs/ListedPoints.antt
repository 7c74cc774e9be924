-- Marks of the points that blocks list more than once, in a hash map. No public clause cites this
-- file.
use Rattle.std.specs.Prelude.{◌≡◌, ℕ, zero, suc, ◌&&◌, Bool, true, false, List, [], ◌∷◌, ◌++◌, Option, Some, None, cond, map, if◌then◌else◌}
use Rattle.std.specs.List.{count_by}
use Rattle.design_model.specs.declared.point.Point.{Point}
use Rattle.line_sections.specs.declared.spot.Spot.{Spot}
use Rattle.line_sections.specs.Lines.{LineValue}
use Rattle.line_sections.specs.Spots.{is_same_spot}
use Rattle.line_sections.specs.Sections.{is_shared_point, has_points, lines_through, sections_of}

-- The mark of each spot: absent where the spot isn't listed, false where it is listed once, true
-- where it is listed again.
abbrev pub Marks : Type 0
Marks = Spot → Option Bool

-- The mark of a spot that is listed n times.
abbrev pub mark_of : ℕ → Option Bool
mark_of zero = None
mark_of (suc zero) = Some false
mark_of (suc (suc n)) = Some true

-- The spot of a block at a point.
abbrev pub spot_at : ℕ → Point → Spot
spot_at block p = record { block = block; at = p }

-- The spots of a line's points.
abbrev pub spots_of : LineValue → List Spot
spots_of line = map (spot_at line.block) line.points

-- Marks of listed spots: each spot has the mark for the number of times that it is listed.
abbrev pub AreMarksOf : List Spot → Marks → Type 0
AreMarksOf spots marks = (spot : Spot) → marks spot ≡ mark_of (count_by (is_same_spot spot) spots)

-- A list of spots that is marked in part: the first ones are marked, and the others are left.
pub record AreMarked (all left : List Spot) (marks : Marks) : Type 0 where
  pub before : List Spot
  pub split : before ++ left ≡ all
  pub marked : AreMarksOf before marks

-- A step from old marks to new ones sets the mark of a spot.
abbrev pub SetsMark : Spot → Bool → Marks → Marks → Type 0
SetsMark spot mark old new =
    (other : Spot) → new other ≡ cond (is_same_spot spot other) (Some mark) (old other)

-- A step from old marks to new ones marks one more spot, the next of those left.
abbrev pub MarksSpot : Spot → Marks → Marks → Type 0
MarksSpot spot old new = (all left : List Spot) → AreMarked all (spot ∷ left) old
    → AreMarked all left new

-- A step from old marks to new ones marks the spots of a line, the next of those left.
abbrev pub MarksLine : LineValue → Marks → Marks → Type 0
MarksLine line old new =
    (all left : List Spot) → AreMarked all (spots_of line ++ left) old → AreMarked all left new

-- A mark records that its spot is listed again.
abbrev pub is_listed_again : Option Bool → Bool
is_listed_again None = false
is_listed_again (Some again) = again

-- A line of the block is cut at a point, according to the marks.
abbrev pub is_cut_by : Marks → ℕ → Point → Bool
is_cut_by marks block p = is_listed_again (marks (spot_at block p))

-- Marks that decide where lines are cut: at the shared points of each block.
pub record AreCutMarks (lines : List LineValue) (marks : Marks) : Type 0 where
  pub cut : (block : ℕ) (p : Point) → is_cut_by marks block p ≡ is_shared_point lines block p

-- The sections of a line, according to the marks.
abbrev pub sections_by : Marks → LineValue → List LineValue
sections_by marks line =
    lines_through line.block (sections_of (is_cut_by marks line.block) line.points)

-- The sections of a line, where the points `begun` are already in the first section and the other
-- points are left.
abbrev pub sections_continued : (Point → Bool) → List Point → List Point → List (List Point)
sections_continued is_cut begun [] = begun ∷ []
sections_continued is_cut begun (q ∷ rest) =
    if has_points rest && is_cut q then (begun ++ q ∷ []) ∷ sections_continued is_cut (q ∷ []) rest
    else sections_continued is_cut (begun ++ q ∷ []) rest
