-- Worked summaries of stitches, and travels between pieces. Lengths are in thousandths of a millimetre.
use Rattle.std.proofs.Common.{◌≡◌, ℕ, ℤ, pos, negsuc, [], ◌∷◌, Option, Some, None, true, false, refl}
use Rattle.design_model.specs.declared.point.Point.{Point}
use Rattle.line_graph.specs.Drawings.{DrawingValue}
use Rattle.line_graph.specs.PieceGraphs.{PieceValue}
use Rattle.design_model.specs.Lengths.{length_of, square_of, whole_root}
use Rattle.piece_stitches.specs.StitchSummaries.{is_short, stitch_lengths, summary_of_lengths, summary_of_lines}
use Rattle.piece_stitches.specs.Travels.{travel_between, way_between}

abbrev at : ℤ → ℤ → Point
at x y = record { x = x; y = y }

-- three stitches, of which one is below 1 mm
pub known_summary_of_lengths : (summary_of_lengths (2500 ∷ 999 ∷ 1000 ∷ [])
    ≡ record { stitches = 3; shortest = 999; longest = 2500; short = 1; thread = 4499 })
    × (summary_of_lengths [] ≡ record { stitches = 0; shortest = 0; longest = 0; short = 0; thread = 0 })
known_summary_of_lengths = (refl, refl)

pub known_short : (is_short 999 ≡ true) × (is_short 1000 ≡ false)
known_short = (refl, refl)

-- 0.3 mm across and 0.4 mm down are 0.5 mm; a diagonal of 0.1 mm is rounded down
pub known_lengths : stitch_lengths (at (pos 0) (pos 0) ∷ at (pos 3) (negsuc 3) ∷ at (pos 4) (negsuc 2) ∷ []) ≡ 500 ∷ 141 ∷ []
unfolding length_of square_of whole_root
known_lengths = refl

-- two lines, of 5 mm in two stitches and of 0.9 mm
abbrev two_lines : DrawingValue
two_lines = record {
  label = [];
  step = 25;
  threads = 7 ∷ [];
  lines = record { block = 0; points = at (pos 0) (pos 0) ∷ at (pos 50) (pos 0) ∷ [] }
      ∷ record { block = 0; points = at (pos 50) (pos 0) ∷ at (pos 50) (pos 9) ∷ [] } ∷ [];
  starts = [];
  ends = [];
}

pub known_piece : summary_of_lines two_lines (0 ∷ 1 ∷ [])
    ≡ record { stitches = 3; shortest = 900; longest = 2500; short = 1; thread = 5900 }
unfolding length_of square_of whole_root
known_piece = refl

-- a piece with two junctions
abbrev stroke : (a b : Point) → (start end : Option ℕ) → PieceValue
stroke a b start end = record {
  block = 0;
  lines = 0 ∷ [];
  junctions = a ∷ b ∷ [];
  edges = record { a = 0; b = 1; cost = 1 } ∷ [];
  degrees = 1 ∷ 1 ∷ [];
  start = start;
  end = end;
}

-- without starts and ends a piece is left and begun at its first junction
pub known_travel : travel_between (stroke (at (pos 0) (pos 0)) (at (pos 20) (pos 0)) None None)
    (stroke (at (pos 30) (pos 40)) (at (pos 60) (pos 0)) None None) ≡ 5000
unfolding length_of square_of whole_root
known_travel = refl

-- with an end it is left there, and with a start the next one is begun there
pub known_travel_to_start : travel_between (stroke (at (pos 0) (pos 0)) (at (pos 20) (pos 0)) None (Some 1))
    (stroke (at (pos 30) (pos 40)) (at (pos 60) (pos 0)) (Some 1) None) ≡ 4000
unfolding length_of square_of whole_root
known_travel_to_start = refl

-- where one of two points is missing, the way between them is 0
pub known_no_way : (way_between (Some (at (pos 3) (pos 4))) None ≡ 0) × (way_between None (Some (at (pos 3) (pos 4))) ≡ 0)
known_no_way = (refl, refl)
