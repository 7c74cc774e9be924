-- Summaries of stitches: how many there are, how long the shortest and the longest are, how many
-- are shorter than 1 mm, and the thread that all need. Lengths are in thousandths of a millimetre.
use Rattle.std.specs.Prelude.{ℕ, max, min, Bool, nat_lt, List, [], ◌∷◌, filter, length, sum_by}
use Rattle.std.specs.List.{flat_map}
use Rattle.design_model.specs.declared.point.Point.{Point}
use Rattle.line_graph.specs.Drawings.{DrawingValue}
use Rattle.line_graph.specs.LineNeedles.{needles_of_line}
use Rattle.design_model.specs.Lengths.{length_of}
use Rattle.piece_stitches.specs.declared.stitch_summary.StitchSummary.{StitchSummary}

-- A length below 1 mm.
abbrev pub is_short : ℕ → Bool
is_short length = nat_lt length 1000

-- The lengths of the stitches from the point p through the given points, in order.
abbrev pub lengths_after : Point → List Point → List ℕ
lengths_after p [] = []
lengths_after p (q ∷ rest) = length_of p q ∷ lengths_after q rest

-- The lengths of the stitches through points, in order.
abbrev pub stitch_lengths : List Point → List ℕ
stitch_lengths [] = []
stitch_lengths (p ∷ rest) = lengths_after p rest

-- The lengths of the stitches of lines of a drawing, each line sewn once.
abbrev pub lengths_of_lines : DrawingValue → List ℕ → List ℕ
lengths_of_lines d lines = flat_map (λ line. stitch_lengths (needles_of_line d line)) lines

-- The least of a number and further ones.
abbrev pub least_from : ℕ → List ℕ → ℕ
least_from best [] = best
least_from best (length ∷ rest) = least_from (min best length) rest

-- The length of the shortest stitch, or 0 if there is none.
abbrev pub shortest_of : List ℕ → ℕ
shortest_of [] = 0
shortest_of (length ∷ rest) = least_from length rest

-- The length of the longest stitch, or 0 if there is none.
abbrev pub longest_of : List ℕ → ℕ
longest_of [] = 0
longest_of (length ∷ rest) = max length (longest_of rest)

-- The summary of stitches of the given lengths.
abbrev pub summary_of_lengths : List ℕ → StitchSummary
summary_of_lengths lengths = record {
  stitches = length lengths;
  shortest = shortest_of lengths;
  longest = longest_of lengths;
  short = length (filter is_short lengths);
  thread = sum_by (λ length. length) lengths;
}

-- The summary of the stitches of lines of a drawing, each line sewn once.
abbrev pub summary_of_lines : DrawingValue → List ℕ → StitchSummary
summary_of_lines d lines = summary_of_lengths (lengths_of_lines d lines)
