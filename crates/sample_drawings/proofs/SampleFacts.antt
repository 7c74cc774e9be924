-- Worked values of the sample drawings, from a small program that was written apart: of 75, which has one
-- cell, of 1, which has four, and of 15, whose cell has no diagonal.
use Rattle.std.proofs.Common.{◌≡◌, ◌+◌, ◌*◌, ◌∷◌, [], ℕ, codes, length, map, pos, refl}
use Rattle.sample_drawings.proofs.Names.{Point, steps_of_line, Segment, drawn_number, state_after, cells_per_side, cell_kind, grid_junction, row_by_row, sample_drawing_of, sample_segments}
use Rattle.line_sections.specs.Lines.{LineValue}

-- a place on the sheet
abbrev pub at : ℕ → ℕ → Point
at x y = record { x = pos x; y = pos y }

-- a line from one place to another
abbrev pub line : Point → Point → Segment
line p q = record { from = p; to = q }

-- the first number is a state too, before any draw
pub known_states : map (state_after 75) (0 ∷ 1 ∷ 2 ∷ 3 ∷ 4 ∷ 5 ∷ 6 ∷ 7 ∷ 8 ∷ 9 ∷ [])
    ≡ 75 ∷ 5699 ∷ 34277 ∷ 14906 ∷ 3895 ∷ 30051 ∷ 25641 ∷ 22576 ∷ 54849 ∷ 50455 ∷ []
known_states = refl

-- the greatest number is a state as it is: only the states after it are below 65,537
pub known_first_draw : state_after 999999 1 ≡ 25671
known_first_draw = refl

-- draw 2 is computed from the state after two draws
pub known_draw : (drawn_number 75 2 50 ≡ 27) × (drawn_number 75 9 4 ≡ 3)
known_draw = (refl, refl)

-- fifteen sizes, the first one of one cell
pub known_sizes : map cells_per_side (1 ∷ 14 ∷ 15 ∷ 16 ∷ 75 ∷ 999999 ∷ []) ≡ 2 ∷ 15 ∷ 1 ∷ 2 ∷ 1 ∷ 10 ∷ []
known_sizes = refl

-- columns first, then rows
pub known_rows : row_by_row 2 3 (λ i j. (10 * i + j) ∷ []) ≡ 0 ∷ 10 ∷ 1 ∷ 11 ∷ 2 ∷ 12 ∷ []
known_rows = refl

-- of each junction the draw to the right comes before the draw down, and those of its row before those of the next
pub known_junctions : (grid_junction 75 0 0 ≡ at 49 27) × (grid_junction 75 1 0 ≡ at 106 45) × (grid_junction 75 0 1 ≡ at 1 141)
    × (grid_junction 75 1 1 ≡ at 126 149)
known_junctions = (refl, refl, refl, refl)

pub known_more_junctions : (grid_junction 1 0 0 ≡ at 49 49) × (grid_junction 1 1 0 ≡ at 105 44) × (grid_junction 1 2 0 ≡ at 233 19)
    × (grid_junction 1 0 1 ≡ at 13 139) × (grid_junction 1 1 1 ≡ at 122 101) × (grid_junction 1 2 1 ≡ at 242 136)
    × (grid_junction 1 0 2 ≡ at 32 206) × (grid_junction 1 1 2 ≡ at 128 244) × (grid_junction 1 2 2 ≡ at 200 232)
known_more_junctions = (refl, refl, refl, refl, refl, refl, refl, refl, refl)

-- the cells are drawn after all junctions, row by row
pub known_kinds : (cell_kind 75 0 0 ≡ 3) × (cell_kind 15 0 0 ≡ 0) × (cell_kind 1 0 0 ≡ 2) × (cell_kind 1 1 0 ≡ 1)
    × (cell_kind 1 0 1 ≡ 2) × (cell_kind 1 1 1 ≡ 1)
known_kinds = (refl, refl, refl, refl, refl, refl)

-- a cell of kind 3 has both diagonals, the one that falls to the right first
pub known_sample_segments : (sample_segments 75
    ≡ line (at 49 27) (at 106 45) ∷ line (at 1 141) (at 126 149)
    ∷ line (at 49 27) (at 1 141) ∷ line (at 106 45) (at 126 149)
    ∷ line (at 49 27) (at 126 149) ∷ line (at 106 45) (at 1 141) ∷ [])
    -- a cell of kind 0 has none
    × (sample_segments 15
    ≡ line (at 49 12) (at 125 11) ∷ line (at 23 148) (at 100 145)
    ∷ line (at 49 12) (at 23 148) ∷ line (at 125 11) (at 100 145) ∷ [])
    -- six lines across, six down, and the diagonals of cells of the kinds 2, 1, 2 and 1
    × (sample_segments 1
    ≡ line (at 49 49) (at 105 44) ∷ line (at 105 44) (at 233 19)
    ∷ line (at 13 139) (at 122 101) ∷ line (at 122 101) (at 242 136)
    ∷ line (at 32 206) (at 128 244) ∷ line (at 128 244) (at 200 232)
    ∷ line (at 49 49) (at 13 139) ∷ line (at 105 44) (at 122 101) ∷ line (at 233 19) (at 242 136)
    ∷ line (at 13 139) (at 32 206) ∷ line (at 122 101) (at 128 244) ∷ line (at 242 136) (at 200 232)
    ∷ line (at 105 44) (at 13 139) ∷ line (at 105 44) (at 242 136)
    ∷ line (at 122 101) (at 32 206) ∷ line (at 122 101) (at 200 232) ∷ [])
known_sample_segments = (refl, refl, refl)

-- the line of a segment has its two ends
abbrev pub drawn_line : Point → Point → LineValue
drawn_line p q = record { block = 0; points = p ∷ q ∷ [] }

pub known_sample : sample_drawing_of 75 ≡ record {
  label = codes "sample";
  step = 25;
  threads = 1 ∷ [];
  lines = drawn_line (at 49 27) (at 106 45) ∷ drawn_line (at 1 141) (at 126 149)
      ∷ drawn_line (at 49 27) (at 1 141) ∷ drawn_line (at 106 45) (at 126 149)
      ∷ drawn_line (at 49 27) (at 126 149) ∷ drawn_line (at 106 45) (at 1 141) ∷ [];
  starts = [];
  ends = [];
}
known_sample = refl

-- the costs of its lines
pub known_costs : map (λ l. steps_of_line (sample_drawing_of 75).step l.points) (sample_drawing_of 75).lines ≡ 3 ∷ 5 ∷ 5 ∷ 5 ∷ 5 ∷ 5 ∷ []
known_costs = refl

-- the size of 14 is the largest
pub known_count : length (sample_segments 14) ≡ 710
known_count = refl
