-- Worked places of small designs, and summaries of their blocks.
use Rattle.std.proofs.Common.{◌≡◌, ℕ, ℤ, pos, negsuc, true, false, List, [], ◌∷◌, Some, None, map, refl}
use Rattle.design_model.specs.declared.command.Command.{Command}
use Rattle.design_model.specs.declared.command.Command.TheVariants.{Stitch, Jump, Trim, Stop}
use Rattle.design_model.specs.declared.point.Point.{Point}
use Rattle.design_model.specs.Designs.{DesignValue}
use Rattle.design_model.specs.Lengths.{length_of, square_of, whole_root}
use Rattle.design_review.specs.declared.limits.ReviewLimits.{ReviewLimits}
use Rattle.design_review.specs.declared.place.DesignPlace.TheVariants as place
use Rattle.design_review.specs.BlockSummaries.{summaries_of_blocks}
use Rattle.design_review.specs.Holes.{are_in_one_hole}
use Rattle.design_review.specs.Places.{exceeds, places_of}
use Rattle.design_review.specs.declared.thread_needles.ThreadNeedle.{ThreadNeedle}
use Rattle.design_review.specs.Ties.{backwards, is_tie_stitch, is_tied}

abbrev at : ℤ → ℤ → Point
at x y = record { x = x; y = y }

-- a needle on the line through the origin
abbrev sew : ℕ → Command
sew x = Stitch (at (pos x) (pos 0))

abbrev jump : ℕ → Command
jump x = Jump (at (pos x) (pos 0))

abbrev sewn : List Command → DesignValue
sewn commands = record { label = []; threads = []; commands = commands }

-- limits that look for nothing
abbrev none : ReviewLimits
none = record { short = 0; long = 0; float = 0; tie = 0; hole = 0 }

abbrev lengths : ReviewLimits
lengths = record { short = 3; long = 70; float = 60; tie = 0; hole = 0 }

-- Stitches of 2 and of 71 are places, those of 3 and 70 are none; a float of 61 is one, and one of 60 is none. The needle after
-- a trim has no length.
abbrev long_and_short : List Command
long_and_short = sew 0 ∷ sew 2 ∷ sew 5 ∷ sew 75 ∷ sew 146 ∷ jump 206 ∷ sew 206 ∷ jump 267 ∷ sew 267 ∷ Trim ∷ jump 900 ∷ sew 900 ∷ []

pub known_lengths : (places_of lengths (sewn long_and_short) ≡ place.Stitch 2 2 ∷ place.Stitch 5 71 ∷ place.Float 9 61 ∷ [])
    × (places_of none (sewn long_and_short) ≡ [])
unfolding length_of square_of whole_root
known_lengths = (refl, refl)

-- A slanted stitch of 7.07 mm is 70 tenths; a float of 1 is too short, as a stitch is.
pub known_slanted : (places_of lengths (sewn (sew 0 ∷ Stitch (at (pos 50) (negsuc 49)) ∷ [])) ≡ [])
    × (places_of lengths (sewn (sew 0 ∷ Stitch (at (pos 51) (negsuc 49)) ∷ [])) ≡ place.Stitch 2 71 ∷ [])
    × (places_of lengths (sewn (sew 0 ∷ jump 9 ∷ sew 1 ∷ [])) ≡ place.Stitch 3 1 ∷ [])
unfolding length_of square_of whole_root
known_slanted = (refl, refl, refl)

-- no length exceeds the limit 0
pub known_limits : (exceeds 0 9 ≡ false) × (exceeds 8 9 ≡ true) × (exceeds 9 9 ≡ false)
known_limits = (refl, refl, refl)

abbrev tied : ReviewLimits
tied = record { short = 0; long = 0; float = 0; tie = 20; hole = 0 }

-- A needle on the line through the origin, sewn to or floated to.
abbrev to : ℕ → ThreadNeedle
to x = record { at = at (pos x) (pos 0); float = false }

abbrev over : ℕ → ThreadNeedle
over x = record { at = at (pos x) (pos 0); float = true }

-- Stitches of a tie are from 2.83 to 12 tenths long: by 2 and 2, but not by 2 and 1; by 12, but not by 12 and 1.
pub known_tie_stitch : (is_tie_stitch (at (pos 0) (pos 0)) (at (negsuc 1) (pos 2)) ≡ true)
    × (is_tie_stitch (at (pos 0) (pos 0)) (at (pos 2) (negsuc 0)) ≡ false)
    × (is_tie_stitch (at (pos 0) (pos 0)) (at (pos 12) (pos 0)) ≡ true)
    × (is_tie_stitch (at (pos 0) (pos 0)) (at (pos 12) (pos 1)) ≡ false)
unfolding square_of
known_tie_stitch = (refl, refl, refl, refl)

-- Three of them tie a thread, in a row or not, within the reach of the first needle: 20 to the right, or 12 and 16 (3-4-5).
pub known_tied_thread : (is_tied 20 (map to (0 ∷ 5 ∷ 0 ∷ 5 ∷ [])) ≡ true)
    × (is_tied 20 (map to (0 ∷ 5 ∷ 0 ∷ 30 ∷ 25 ∷ [])) ≡ false)
    × (is_tied 20 (map to (0 ∷ 1 ∷ 5 ∷ 20 ∷ 8 ∷ 7 ∷ 0 ∷ [])) ≡ true)
    × (is_tied 20 (map to (0 ∷ 7 ∷ 14 ∷ 21 ∷ [])) ≡ false)
    × (is_tied 21 (map to (0 ∷ 7 ∷ 14 ∷ 21 ∷ [])) ≡ true)
    × (is_tied 20 (to 0 ∷ to 5 ∷ to 10 ∷ record { at = at (pos 12) (negsuc 16); float = false } ∷ to 5 ∷ to 0 ∷ []) ≡ false)
    × (is_tied 20 (to 0 ∷ record { at = at (pos 6) (negsuc 7); float = false } ∷ record { at = at (pos 12) (negsuc 15); float = false }
    ∷ record { at = at (pos 6) (negsuc 7); float = false } ∷ []) ≡ true)
    × (is_tied 20 (to 0 ∷ to 5 ∷ to 0 ∷ over 5 ∷ to 0 ∷ to 5 ∷ []) ≡ false)
    × (is_tied 20 (map to (0 ∷ [])) ≡ false) × (is_tied 20 [] ≡ false)
unfolding square_of
known_tied_thread = (refl, refl, refl, refl, refl, refl, refl, refl, refl, refl)

-- Backwards, a float is between the same two needles.
pub known_backwards : (backwards (to 0 ∷ to 9 ∷ over 20 ∷ to 25 ∷ []) ≡ to 25 ∷ to 20 ∷ over 9 ∷ to 0 ∷ []) × (backwards [] ≡ [])
known_backwards = (refl, refl)

-- The first piece is tied at its start alone, the second at its end alone, and the third, a dot, at neither. The float in the
-- last one is before the stitches that would tie its end.
pub known_ties : (places_of tied (sewn (sew 0 ∷ sew 5 ∷ sew 0 ∷ sew 5 ∷ sew 30 ∷ sew 50 ∷ sew 70 ∷ Trim
    ∷ sew 130 ∷ sew 150 ∷ sew 170 ∷ sew 210 ∷ sew 220 ∷ sew 210 ∷ sew 220 ∷ Stop ∷ sew 300 ∷ Trim
    ∷ sew 400 ∷ sew 406 ∷ sew 400 ∷ sew 406 ∷ jump 400 ∷ sew 400 ∷ []))
    ≡ place.UntiedEnd 1 ∷ place.UntiedStart 2 ∷ place.UntiedStart 3 ∷ place.UntiedEnd 3 ∷ place.UntiedEnd 4 ∷ [])
    × (places_of none (sewn (sew 300 ∷ [])) ≡ [])
unfolding length_of square_of whole_root
known_ties = (refl, refl)

abbrev holes : ReviewLimits
holes = record { short = 0; long = 0; float = 0; tie = 0; hole = 3 }

-- two needles in one hole are at most 2 tenths apart, on a straight line
pub known_one_hole : (are_in_one_hole (at (pos 0) (pos 0)) (at (negsuc 1) (pos 0)) ≡ true)
    × (are_in_one_hole (at (pos 0) (pos 0)) (at (pos 1) (pos 1)) ≡ true)
    × (are_in_one_hole (at (pos 0) (pos 0)) (at (pos 2) (pos 1)) ≡ false)
    × (are_in_one_hole (at (pos 0) (pos 0)) (at (pos 0) (pos 3)) ≡ false)
unfolding square_of
known_one_hole = (refl, refl, refl, refl)

-- The needles at 0 and at 4 have both needles at 2 in one hole with them, though they don't follow each other. Those at 2 have
-- more, but are in reported holes. Two needles are too few.
pub known_holes : (places_of holes (sewn (sew 0 ∷ sew 50 ∷ sew 2 ∷ sew 90 ∷ Trim ∷ sew 4 ∷ Stop ∷ sew 2 ∷ []))
    ≡ place.Hole 1 3 ∷ place.Hole 6 3 ∷ [])
    × (places_of holes (sewn (sew 0 ∷ sew 50 ∷ sew 2 ∷ [])) ≡ [])
unfolding length_of square_of whole_root
known_holes = (refl, refl)

-- A block without a needle, in a design that has one; a frame that is 3.6 mm and then 4 mm away from the last needle.
pub known_stops : (places_of none (sewn (sew 0 ∷ Stop ∷ Trim ∷ Stop ∷ sew 9 ∷ [])) ≡ place.EmptyBlock 2 ∷ [])
    × (places_of none (sewn (sew 0 ∷ Jump (at (pos 20) (pos 30)) ∷ Stop ∷ Jump (at (pos 40) (pos 0)) ∷ Trim
    ∷ Stop ∷ jump 0 ∷ sew 9 ∷ Stop ∷ []))
    ≡ place.FrameMove 1 36 ∷ place.EmptyBlock 2 ∷ place.FrameMove 2 40 ∷ place.EmptyBlock 4 ∷ [])
unfolding length_of square_of whole_root
known_stops = (refl, refl)

-- A design without a needle is one place, and its blocks are none.
pub known_none : (places_of lengths (sewn []) ≡ place.NoNeedle ∷ []) × (places_of lengths (sewn (Stop ∷ Trim ∷ [])) ≡ place.NoNeedle ∷ [])
    × (places_of none (sewn (jump 7 ∷ Stop ∷ [])) ≡ place.NoNeedle ∷ place.FrameMove 1 7 ∷ [])
unfolding length_of square_of whole_root
known_none = (refl, refl, refl)

-- Two blocks: a stitch of 3, a float of 50 and a stitch of 5 are thread, and the shortest and the longest are stitches. The way to
-- the needle after the trim is no thread. The last block has no needle.
pub known_summaries : summaries_of_blocks (sewn (sew 0 ∷ sew 3 ∷ jump 53 ∷ sew 53 ∷ sew 58 ∷ Trim ∷ sew 90 ∷ Stop ∷ sew 7 ∷ Stop ∷ []))
    ≡ record { needles = 5; length = 5800; shortest = Some 300; longest = 500 }
    ∷ record { needles = 1; length = 0; shortest = None; longest = 0 }
    ∷ record { needles = 0; length = 0; shortest = None; longest = 0 } ∷ []
unfolding length_of square_of whole_root
known_summaries = refl
