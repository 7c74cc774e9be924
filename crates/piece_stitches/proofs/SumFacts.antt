-- Worked values of summaries that grow, and of sums over pieces. Lengths are in thousandths of a millimetre.
use Rattle.std.proofs.Common.{◌≡◌, ℕ, ◌+◌, ◌<◌, ◌≤◌, ◌^◌, [], ◌∷◌, length, refl, arith, All}
use Rattle.line_graph.specs.Drawings.{DrawingValue}
use Rattle.line_graph.specs.declared.piece.Piece.{Piece}
use Rattle.piece_stitches.specs.GrowingSummaries.{IsSummary, no_stitches, with_stitches}
use Rattle.piece_stitches.specs.PieceStitches.{HasLinesOf, HasSmallLengths, HasSmallTotals, total_thread, total_travel}
use Rattle.piece_stitches.specs.declared.counting.PieceStitches.{PieceStitches}
use Rattle.piece_stitches.specs.declared.stitch_summary.StitchSummary.{StitchSummary}

-- a summary of that many stitches
abbrev summary : (stitches short thread : ℕ) → StitchSummary
summary stitches short thread =
    record { stitches = stitches; shortest = 400; longest = 900; short = short; thread = thread }

-- the first stitch is the shortest and the longest so far, and of 999 and 1000 one is short
pub known_grown : (with_stitches no_stitches (999 ∷ 1000 ∷ 1500 ∷ [])
    ≡ record { stitches = 3; shortest = 999; longest = 1500; short = 1; thread = 3499 })
    × (with_stitches (summary 2 1 1300) (1200 ∷ 300 ∷ [])
    ≡ record { stitches = 4; shortest = 300; longest = 1200; short = 2; thread = 2800 })
known_grown = (refl, refl)

-- before the first stitch all is 0
pub known_none : with_stitches no_stitches [] ≡ record { stitches = 0; shortest = 0; longest = 0; short = 0; thread = 0 }
known_none = refl

-- no more stitches are short than there are, and each is shorter than 2 ^ 64
pub known_short : IsSummary (summary 2 3 1300) → ⊥
known_short is = omega (arith, is.short)

pub known_long : IsSummary (summary 2 1 36893488147419103233) → ⊥
known_long is = omega (arith, is.thread)

-- a piece with that thread, and that travel to it
abbrev sewn : (thread travel : ℕ) → PieceStitches
sewn thread travel = record { summary = summary 2 1 thread; travel = travel }

-- the sums over pieces
pub known_totals : (total_thread (sewn 1300 0 ∷ sewn 900 5000 ∷ []) ≡ 2200)
    × (total_travel (sewn 1300 0 ∷ sewn 900 5000 ∷ sewn 1 70 ∷ []) ≡ 5070)
known_totals = (refl, refl)

-- the lengths of a piece, and the totals, are below those powers of two
pub known_small_lengths : (thread travel : ℕ) → HasSmallLengths (sewn thread travel) → (thread ≤ 2 ^ 100) × (travel < 2 ^ 64)
known_small_lengths thread travel small = (small.thread, small.travel)

pub known_small_totals : (thread travel : ℕ) → HasSmallTotals (sewn thread 0 ∷ sewn 900 travel ∷ [])
    → (thread + (900 + 0) < 2 ^ 128) × (0 + (travel + 0) < 2 ^ 128)
known_small_totals thread travel small = (small.thread, small.travel)

-- the lines of a piece are lines of the drawing, and at most 1,024
pub known_lines : (d : DrawingValue) (p : Piece) → HasLinesOf d p
    → All (λ (line : ℕ). line < length d.lines) p.lines × (length p.lines ≤ 1024)
known_lines d p has = (has.there, has.few)
