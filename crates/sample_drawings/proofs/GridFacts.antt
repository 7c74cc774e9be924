-- The lines of a sample by direction, its tables, and the room for its lines.
use Rattle.std.proofs.Common.{◌≡◌, ◌+◌, ◌*◌, ◌≤◌, true, false, [], ◌∷◌, codes, length, refl, arith, sym, true≢false}
use Rattle.sample_drawings.proofs.Names.{DrawingValue, HasRoom, IsShortSegment, Segment, first_block, lines_in_row, moved_junction, point_count, step_count, steps_of_line, with_segments}
use Rattle.sample_drawings.specs.GridLines.{lines_in_direction}
use Rattle.sample_drawings.specs.Grids.{grid_junctions, kinds_of}
use Rattle.sample_drawings.specs.declared.grid_lines.LineDirection.TheVariants as course
use Rattle.sample_drawings.proofs.SampleFacts.{at, drawn_line, line}

-- the drawing of 75 has one cell with both diagonals
pub known_directions : (lines_in_direction 75 course.Across ≡ line (at 49 27) (at 106 45) ∷ line (at 1 141) (at 126 149) ∷ [])
    × (lines_in_direction 75 course.Down ≡ line (at 49 27) (at 1 141) ∷ line (at 106 45) (at 126 149) ∷ [])
    × (lines_in_direction 75 course.Diagonal ≡ line (at 49 27) (at 126 149) ∷ line (at 106 45) (at 1 141) ∷ [])
known_directions = (refl, refl, refl)

-- the second row of the drawing of 1, which has four cells
pub known_row : (lines_in_row 1 course.Across 1 ≡ line (at 13 139) (at 122 101) ∷ line (at 122 101) (at 242 136) ∷ [])
    × (lines_in_row 1 course.Down 1 ≡ line (at 13 139) (at 32 206) ∷ line (at 122 101) (at 128 244) ∷ line (at 242 136) (at 200 232) ∷ [])
    × (lines_in_row 1 course.Diagonal 1 ≡ line (at 122 101) (at 32 206) ∷ line (at 122 101) (at 200 232) ∷ [])
known_row = (refl, refl, refl)

-- row by row
pub known_tables : (grid_junctions 75 ≡ at 49 27 ∷ at 106 45 ∷ at 1 141 ∷ at 126 149 ∷ []) × (kinds_of 1 ≡ 2 ∷ 1 ∷ 2 ∷ 1 ∷ [])
known_tables = (refl, refl)

-- the third junction of 75, from the generator's state after four draws
pub known_moved : moved_junction 3895 0 1 ≡ at 1 141
known_moved = refl

-- a short segment has two different ends within reach, and costs 6 steps of 2.5 mm at most
pub known_short : (s : Segment) → IsShortSegment s → steps_of_line 25 (s.from ∷ s.to ∷ []) ≤ 6
known_short s is = is.cost

pub known_far : (IsShortSegment (line (at 30001 0) (at 30000 0)) → ⊥) × (IsShortSegment (line (at 0 30000) (at 0 30001)) → ⊥)
    × (IsShortSegment (line (at 3 4) (at 3 4)) → ⊥)
known_far = (λ is. true≢false (sym is.from), λ is. true≢false (sym is.to), λ is. true≢false is.apart)

pub known_long : IsShortSegment (line (at 0 0) (at 151 0)) → ⊥
known_long is = long is.cost
  where
    long : 7 ≤ 6 → ⊥
    long less = omega (arith, less)

-- room for lines: in one block, and within the limits of a drawing
pub known_room : (d : DrawingValue) → HasRoom d 3 → (d.threads ≡ 1 ∷ []) × (d.step ≡ 25) × (length d.lines + 3 ≤ 1024)
    × (point_count d.lines ≤ 2 * length d.lines) × (step_count 25 d.lines ≤ 6 * length d.lines)
known_room d has = (has.threads, has.step, has.lines, has.points, has.steps)

-- before its first line, and with one
pub known_first : first_block ≡ record { label = codes "sample"; step = 25; threads = 1 ∷ []; lines = []; starts = []; ends = [] }
known_first = refl

pub known_lines : with_segments (with_segments first_block (line (at 0 0) (at 5 0) ∷ [])) (line (at 5 0) (at 9 0) ∷ [])
    ≡ record {
      label = codes "sample";
      step = 25;
      threads = 1 ∷ [];
      lines = drawn_line (at 0 0) (at 5 0) ∷ drawn_line (at 5 0) (at 9 0) ∷ [];
      starts = [];
      ends = [];
    }
known_lines = refl
