-- Worked values of needle points.
use Rattle.std.proofs.Common.{◌≡◌, ℕ, pos, List, [], ◌∷◌, refl}
use Rattle.line_graph.proofs.DrawingNames.{Point, DrawingValue, steps_of_line, cost_of_line, needles_of_line}

abbrev pub at : ℕ → ℕ → Point
at x y = record { x = pos x; y = pos y }

-- a drawing of one line, in one block
abbrev pub drawn : ℕ → List Point → DrawingValue
drawn step points = record {
  label = [];
  step = step;
  threads = 5 ∷ [];
  lines = record { block = 0; points = points } ∷ [];
  starts = [];
  ends = [];
}

-- a square of sides 30 at the longest step 30
abbrev square : DrawingValue
square = drawn 30 (at 0 0 ∷ at 30 0 ∷ at 30 30 ∷ at 0 30 ∷ at 0 0 ∷ [])

-- a side of the square is one step
pub known_square : (needles_of_line square 0 ≡ at 0 0 ∷ at 30 0 ∷ at 30 30 ∷ at 0 30 ∷ at 0 0 ∷ [])
    × (cost_of_line square 0 ≡ 4)
known_square = (refl, refl)

-- three steps across and two down, each segment by itself
pub known_steps : steps_of_line 10 (at 0 0 ∷ at 30 0 ∷ at 30 15 ∷ []) ≡ 5
known_steps = refl
