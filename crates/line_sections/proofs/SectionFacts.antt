-- Worked values of sections: where lines are cut, and where they aren't.
use Rattle.std.proofs.Common.{◌≡◌, ℕ, ◌≤◌, pos, Bool, true, false, List, [], ◌∷◌, ◌++◌, length, map, All, None, Some, refl, arith}
use Rattle.line_sections.proofs.Names.{Point, LineValue, is_listed_again, mark_of, all_sections, are_whole_lines, lines_through, sections_of, segments_of, is_same_spot, SectionsHaveSegments, WholeLinesStay}

abbrev at : ℕ → ℕ → Point
at x y = record { x = pos x; y = pos y }

abbrev AreCut : List LineValue → List LineValue → Type 0
AreCut lines sections = all_sections lines ≡ sections

-- two lines through one point meet there
abbrev crossing : List LineValue
crossing = lines_through 0 ((at 0 10 ∷ at 10 10 ∷ at 20 10 ∷ []) ∷ (at 10 0 ∷ at 10 10 ∷ at 10 20 ∷ []) ∷ [])

abbrev crossed : List LineValue
crossed = lines_through 0 ((at 0 10 ∷ at 10 10 ∷ []) ∷ (at 10 10 ∷ at 20 10 ∷ [])
    ∷ (at 10 0 ∷ at 10 10 ∷ []) ∷ (at 10 10 ∷ at 10 20 ∷ []) ∷ [])

pub known_crossing : AreCut crossing crossed
known_crossing = refl

pub known_crossing_whole : (are_whole_lines crossing ≡ false) × (are_whole_lines crossed ≡ true)
known_crossing_whole = (refl, refl)

-- a point that only a line of another block lists cuts nothing
abbrev apart : List LineValue
apart = lines_through 0 ((at 0 10 ∷ at 10 10 ∷ at 20 10 ∷ []) ∷ []) ++ lines_through 1 ((at 10 0 ∷ at 10 10 ∷ at 10 20 ∷ []) ∷ [])

pub known_blocks : AreCut apart apart × (are_whole_lines apart ≡ true)
known_blocks = (refl, refl)

-- lines that cross where neither has a point stay whole
pub known_unlisted : are_whole_lines (lines_through 0 ((at 0 10 ∷ at 20 10 ∷ []) ∷ (at 10 0 ∷ at 10 20 ∷ []) ∷ [])) ≡ true
known_unlisted = refl

-- a point inside a line that another one ends at: the one is cut, and the other has no inside there
pub known_end : AreCut (lines_through 0 ((at 0 0 ∷ at 1 2 ∷ at 3 3 ∷ at 4 4 ∷ []) ∷ (at 9 9 ∷ at 3 3 ∷ []) ∷ []))
    (lines_through 0 ((at 0 0 ∷ at 1 2 ∷ at 3 3 ∷ []) ∷ (at 3 3 ∷ at 4 4 ∷ []) ∷ (at 9 9 ∷ at 3 3 ∷ []) ∷ []))
known_end = refl

-- a line meets itself at a point inside it that it lists twice, and at its own end
pub known_itself : AreCut (lines_through 1 ((at 0 0 ∷ at 5 5 ∷ at 9 0 ∷ at 9 9 ∷ at 5 5 ∷ at 0 9 ∷ []) ∷ []))
    (lines_through 1 ((at 0 0 ∷ at 5 5 ∷ []) ∷ (at 5 5 ∷ at 9 0 ∷ at 9 9 ∷ at 5 5 ∷ []) ∷ (at 5 5 ∷ at 0 9 ∷ []) ∷ []))
known_itself = refl

pub known_own_end : AreCut (lines_through 0 ((at 0 0 ∷ at 5 5 ∷ at 0 0 ∷ at 7 0 ∷ []) ∷ []))
    (lines_through 0 ((at 0 0 ∷ at 5 5 ∷ at 0 0 ∷ []) ∷ (at 0 0 ∷ at 7 0 ∷ []) ∷ []))
known_own_end = refl

-- a closed line is cut at its two points that another line lists, and not where it begins and ends
pub known_closed : AreCut
    (lines_through 0 ((at 0 0 ∷ at 3 0 ∷ at 3 3 ∷ at 0 3 ∷ at 0 0 ∷ []) ∷ (at 3 0 ∷ at 0 3 ∷ []) ∷ []))
    (lines_through 0 ((at 0 0 ∷ at 3 0 ∷ []) ∷ (at 3 0 ∷ at 3 3 ∷ at 0 3 ∷ []) ∷ (at 0 3 ∷ at 0 0 ∷ []) ∷ (at 3 0 ∷ at 0 3 ∷ []) ∷ []))
known_closed = refl

-- where a closed line is the only one, it stays whole
pub known_loop : are_whole_lines (lines_through 0 ((at 0 0 ∷ at 3 0 ∷ at 3 3 ∷ at 0 0 ∷ []) ∷ [])) ≡ true
known_loop = refl

-- segments by their ends
pub known_segments : segments_of (at 0 0 ∷ at 3 0 ∷ at 3 4 ∷ []) ≡ (at 0 0, at 3 0) ∷ (at 3 0, at 3 4) ∷ []
known_segments = refl

-- a line of one point is its section, and one without a point has none
pub known_point : AreCut (lines_through 3 ((at 1 1 ∷ []) ∷ [] ∷ [])) (lines_through 3 ((at 1 1 ∷ []) ∷ []))
    × (segments_of (at 1 1 ∷ []) ≡ [])
known_point = (refl, refl)

-- an equal point in another block is another spot, and so is another point
pub known_spots : (map (is_same_spot (record { block = 1; at = at 3 4 })) (record { block = 1; at = at 3 4 }
    ∷ record { block = 0; at = at 3 4 }
    ∷ record { block = 1; at = at 4 3 } ∷ []) ≡ true ∷ false ∷ false ∷ [])
    -- from the second time on a spot is listed again
    × (map mark_of (0 ∷ 1 ∷ 2 ∷ 3 ∷ []) ≡ None ∷ Some false ∷ Some true ∷ Some true ∷ [])
    × (map is_listed_again (None ∷ Some false ∷ Some true ∷ []) ≡ false ∷ false ∷ true ∷ [])
known_spots = (refl, refl, refl)

-- the theorem on segments is about lines of two points, and that on whole lines about lines of one point
pub known_two_points : SectionsHaveSegments → (is_cut : Point → Bool) (p q : Point)
    → All (λ section. 2 ≤ length section) (sections_of is_cut (p ∷ q ∷ []))
known_two_points law is_cut p q = law is_cut (p ∷ q ∷ []) (omega arith)

pub known_one_point : WholeLinesStay → (lines : List LineValue) → All (λ line. 1 ≤ length line.points) lines
    → are_whole_lines lines ≡ true → AreCut lines lines
known_one_point law = law
