-- Worked spacings: lines with a step of 10, in tenths of a millimetre.
use Rattle.std.proofs.Common.{◌≡◌, ℕ, pos, negsuc, true, false, List, [], ◌∷◌, refl}
use Rattle.design_model.specs.declared.point.Point.{Point}
use Rattle.design_model.specs.Lengths.{length_of, square_of, whole_root}
use Rattle.line_sections.specs.Lines.{LineValue}
use Rattle.drawing_reports.specs.LengthSpans.{span_of}
use Rattle.drawing_reports.specs.Spacings.{is_short_stitch, spacings_of_lines}

abbrev at : ℕ → ℕ → Point
at x y = record { x = pos x; y = pos y }

-- Half a step isn't short, on either axis.
pub known_short : (is_short_stitch 10 (at 0 0, at 4 4) ≡ true) × (is_short_stitch 10 (at 5 0, at 0 0) ≡ false)
    × (is_short_stitch 10 (at 9 9, at 9 4) ≡ false) × (is_short_stitch 11 (at 9 9, at 9 4) ≡ true)
known_short = (refl, refl, refl, refl)

abbrev lines : List LineValue
lines = record { block = 0; points = at 0 0 ∷ at 20 0 ∷ [] }
    ∷ record { block = 2; points = at 0 0 ∷ at 20 0 ∷ at 24 3 ∷ at 24 0 ∷ at 40 0 ∷ at 40 4 ∷ [] } ∷ []

-- The second line has segments of 0.5, 0.3 and 0.4 mm.
pub known_spacings : spacings_of_lines 10 lines
    ≡ record { block = 2; line = 1; stitches = 3; first = at 20 0; shortest = 300; longest = 500 } ∷ []
unfolding length_of square_of whole_root
known_spacings = refl

-- The shortest segment of both lines is one of 0.3 mm, the longest one of 2 mm.
pub known_span : span_of lines ≡ record { shortest = 300; longest = 2000 }
unfolding length_of square_of whole_root
known_span = refl
