-- Worked values of walks and their sewing.
use Rattle.std.proofs.Common.{◌≡◌, ℕ, pos, true, false, List, [], ◌∷◌, refl}
use Rattle.line_graph.proofs.Names.{Stitch, Trim, Point, Pass, DrawingValue, commands_after, runs_of, needles_of_walk}

abbrev pub at : ℕ → ℕ → Point
at x y = record { x = pos x; y = pos y }

-- a drawing of one line, in one block
abbrev pub drawn : ℕ → List Point → DrawingValue
drawn step points = record {
  label = [];
  step = step;
  threads = 5 ∷ [];
  lines = record { block = 0; points = points } ∷ [];
  starts = [];
  ends = [];
}

-- a square of sides 30 at the longest step 30, and a stroke of 40 at the longest step 10
abbrev pub square : DrawingValue
square = drawn 30 (at 0 0 ∷ at 30 0 ∷ at 30 30 ∷ at 0 30 ∷ at 0 0 ∷ [])

abbrev pub stroke : DrawingValue
stroke = drawn 10 (at 0 0 ∷ at 40 0 ∷ [])

abbrev pub forth : Pass
forth = record { line = 0; back = false }

abbrev pub back : Pass
back = record { line = 0; back = true }

-- a stroke forth and back takes its far end once
pub known_retrace : needles_of_walk stroke (forth ∷ back ∷ [])
    ≡ at 0 0 ∷ at 10 0 ∷ at 20 0 ∷ at 30 0 ∷ at 40 0 ∷ at 30 0 ∷ at 20 0 ∷ at 10 0 ∷ at 0 0 ∷ []
known_retrace = refl

-- the square is sewn by five stitches and a trim
pub known_sewing : commands_after 0 (runs_of square ((forth ∷ []) ∷ []))
    ≡ Stitch (at 0 0) ∷ Stitch (at 30 0) ∷ Stitch (at 30 30) ∷ Stitch (at 0 30) ∷ Stitch (at 0 0) ∷ Trim ∷ []
known_sewing = refl
