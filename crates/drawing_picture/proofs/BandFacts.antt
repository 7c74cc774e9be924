-- Worked values of bands, by hand.
use Rattle.std.proofs.Common.{◌≡◌, ℕ, ℤ, pos, negsuc, List, [], ◌∷◌, ◌++◌, codes, map, refl}
use Rattle.std.specs.Fmt.{digits}
use Rattle.drawing_picture.proofs.Names.{Point, band_length, Band, bands_from, band_text, Cut, colour_of_cut}
use Rattle.drawing_picture.specs.Bands.{half_steps}
use Rattle.drawing_picture.specs.BandTexts.{band_start, way_point}
use Rattle.picture_parts.specs.Parts.{around, filled}
use Rattle.picture_parts.specs.Paths.{path_end}

abbrev pub point : ℤ → ℤ → Point
point x y = record { x = x; y = y }

-- Three needle points, 10 and 5 tenths of a millimetre apart: the second stitch leads 5 down, and its middle is at 2.5.
pub known_half_steps : (half_steps (point (pos 0) (pos 0) ∷ point (pos 10) (pos 0) ∷ point (pos 10) (pos 5) ∷ [])
    ≡ point (pos 0) (pos 0) ∷ point (pos 10) (pos 0) ∷ point (pos 20) (pos 0) ∷ point (pos 20) (pos 5) ∷ point (pos 20) (pos 10) ∷ [])
    × (half_steps (point (negsuc 2) (pos 4) ∷ []) ≡ point (negsuc 5) (pos 8) ∷ [])
known_half_steps = (refl, refl)

-- a point on a line to the right
abbrev pub at : ℕ → Point
at x = point (pos x) (pos 0)

abbrev pub cut : ℕ → List ℕ → Cut
cut weight members = record { weight = weight; members = members }

-- An edge of two steps between the junctions 3 and 4. Cuts of weight 1 and 2 hold its first end, one of weight 1 its last. The second
-- band begins where the first ends; a cut that holds both ends or neither has none.
pub known_bands : (map (λ (band : Band). band.way) (bands_from 0
    (cut 1 (3 ∷ []) ∷ cut 7 (3 ∷ 4 ∷ []) ∷ cut 1 (4 ∷ 9 ∷ []) ∷ cut 7 (5 ∷ []) ∷ cut 2 (1 ∷ 3 ∷ []) ∷ [])
    (record { a = 3; b = 4; cost = 2 }) (at 0 ∷ at 1 ∷ at 2 ∷ at 3 ∷ at 4 ∷ []) (at 4 ∷ at 3 ∷ at 2 ∷ at 1 ∷ at 0 ∷ []))
    ≡ (at 0 ∷ at 1 ∷ []) ∷ (at 4 ∷ at 3 ∷ []) ∷ (at 1 ∷ at 2 ∷ at 3 ∷ []) ∷ [])
    × (map (λ (band : Band). band.number) (bands_from 0
    (cut 1 (3 ∷ []) ∷ cut 7 (3 ∷ 4 ∷ []) ∷ cut 1 (4 ∷ 9 ∷ []) ∷ []) (record { a = 3; b = 4; cost = 2 })
    (at 0 ∷ at 1 ∷ []) (at 4 ∷ at 3 ∷ [])) ≡ 0 ∷ 2 ∷ [])
known_bands = (refl, refl)

pub known_length : band_length (record { cut = cut 2 []; number = 0; way = at 1 ∷ at 2 ∷ at 3 ∷ [] }) ≡ 2
known_length = refl

-- The eighth cut has the colour of the second.
pub known_band : band_text (record { cut = cut 1 []; number = 7; way = at 3 ∷ point (negsuc 0) (pos 2) ∷ [] })
    ≡ codes "<path class='band' stroke='#e6ab02' d='M3,0 -1,2 '/>" ++ 10 ∷ []
unfolding around filled digits band_start way_point path_end
known_band = refl

pub known_cut_colours : map colour_of_cut (0 ∷ 2 ∷ 3 ∷ 4 ∷ 5 ∷ 6 ∷ [])
    ≡ codes "#1b9e77" ∷ codes "#7570b3" ∷ codes "#66a61e" ∷ codes "#e7298a" ∷ codes "#a6761d" ∷ codes "#1b9e77" ∷ []
known_cut_colours = refl
