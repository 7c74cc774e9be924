-- Worked values of sewing in several blocks.
use Rattle.std.proofs.Common.{◌≡◌, ℕ, ℤ, pos, negsuc, [], ◌∷◌, codes, false, refl}
use Rattle.line_graph.proofs.Names.{Stitch, Stop, Trim, Point, DrawingValue, Run, stops_after, sewn_design}

abbrev place : ℤ → ℤ → Point
place x y = record { x = x; y = y }

-- two strokes in two blocks
abbrev strokes : DrawingValue
strokes = record {
  label = codes "ab";
  step = 25;
  threads = 5 ∷ 0 ∷ [];
  lines = record { block = 0; points = place (pos 0) (pos 0) ∷ place (negsuc 2) (pos 4) ∷ [] }
      ∷ record { block = 1; points = place (pos 10) (pos 2) ∷ place (pos 3) (pos 4) ∷ [] } ∷ [];
  starts = [];
  ends = [];
}

-- the design has the drawing's label and threads; there is a stop between the strokes, since their blocks differ by one
pub known_stop :
    sewn_design strokes ((record { line = 0; back = false } ∷ []) ∷ (record { line = 1; back = false } ∷ []) ∷ []) ≡ record {
      label = codes "ab";
      threads = 5 ∷ 0 ∷ [];
      commands = Stitch (place (pos 0) (pos 0)) ∷ Stitch (place (negsuc 2) (pos 4)) ∷ Trim
          ∷ Stop ∷ Stitch (place (pos 10) (pos 2)) ∷ Stitch (place (pos 3) (pos 4)) ∷ Trim ∷ [];
    }
known_stop = refl

-- runs in the blocks 0, 2, 2 and 3 have three stops between them
abbrev run : ℕ → Run
run block = record { block = block; needles = place (pos 0) (pos 0) ∷ [] }

pub known_stops : stops_after 0 (run 0 ∷ run 2 ∷ run 2 ∷ run 3 ∷ []) ≡ 3
known_stops = refl
