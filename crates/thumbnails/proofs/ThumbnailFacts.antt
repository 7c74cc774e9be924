-- Worked thumbnails, by hand. Lengths are in tenths of a millimetre.
use Rattle.std.proofs.Common.{◌≡◌, ℕ, ℤ, pos, negsuc, true, false, List, [], ◌∷◌, ◌++◌, map, None, Some, refl}
use Rattle.std.specs.Prelude.{◌*◌, drop, replicate, take}
use Rattle.design_model.specs.declared.command.Command.TheVariants.{Stitch, Jump}
use Rattle.design_model.specs.declared.command.Command.TheVariants as command
use Rattle.design_model.specs.declared.point.Point.{Point}
use Rattle.design_model.specs.Designs.{DesignValue}
use Rattle.pec_codec.specs.declared.block.TheConstants.{THUMBNAIL_LENGTH}
use Rattle.thumbnails.specs.declared.lit_points.ThumbPoint.{ThumbPoint}
use Rattle.thumbnails.specs.declared.packing.TheConstants.{ROWS}
use Rattle.thumbnails.specs.declared.scaling.TheConstants.{ACROSS, BORDER, DOWN}
use Rattle.thumbnails.specs.LitPoints.{point_of_line, no_points, with_thumb_line, with_thumb_point}
use Rattle.thumbnails.specs.Packings.{byte_at, thumb_bytes}
use Rattle.thumbnails.specs.Scales.{thumb_point, view_of}
use Rattle.thumbnails.specs.Sketches.{drawn_thumbnails_of}

abbrev point : ℤ → ℤ → Point
point x y = record { x = x; y = y }

abbrev at : ℕ → ℕ → ThumbPoint
at column row = record { column = column; row = row }

-- 40 by 30 points within 48 by 38, of 6 bytes in each of 38 rows.
pub known_constants : (ACROSS ≡ 39) × (DOWN ≡ 29) × (BORDER ≡ 4) × (ROWS ≡ 38) × (THUMBNAIL_LENGTH ≡ 6 * 38)
known_constants = (refl, refl, refl, refl, refl)

-- A design of 78 by 29 from (-9, 20) takes all 39 columns, at two tenths a point, and 14 rows: 4 and half of 15 are above.
pub known_wide : map (thumb_point (view_of (Some (record { min = point (negsuc 8) (pos 20); max = point (pos 69) (pos 49) }))))
    (point (negsuc 8) (pos 20) ∷ point (pos 69) (pos 49) ∷ point (pos 0) (pos 21) ∷ []) ≡ at 4 11 ∷ at 43 25 ∷ at 8 11 ∷ []
known_wide = refl

-- One of 29 by 58 takes all 29 rows, and 14 columns: 4 and half of 25 are left of it.
pub known_high : map (thumb_point (view_of (Some (record { min = point (pos 5) (negsuc 57); max = point (pos 34) (pos 0) }))))
    (point (pos 5) (negsuc 57) ∷ point (pos 34) (pos 0) ∷ []) ≡ at 16 4 ∷ at 30 33 ∷ []
known_high = refl

-- A single needle is in the middle, and so is the origin of a design without needles.
pub known_single : (thumb_point (view_of (Some (record { min = point (pos 7) (pos 8); max = point (pos 7) (pos 8) })))
    (point (pos 7) (pos 8))
    ≡ at 23 18) × (thumb_point (view_of None) (point (pos 0) (pos 0)) ≡ at 23 18)
known_single = (refl, refl)

-- A line of 4 columns and 2 rows back: after 1 step half a row is rounded up.
pub known_line : map (λ step. point_of_line 4 step (at 1 7) (at 5 5)) (0 ∷ 1 ∷ 2 ∷ 3 ∷ 4 ∷ [])
    ≡ at 1 7 ∷ at 2 7 ∷ at 3 6 ∷ at 4 6 ∷ at 5 5 ∷ []
known_line = refl

-- The points of that line, and none beside it.
pub known_lit : map (with_thumb_line no_points (at 1 7) (at 5 5))
    (at 1 7 ∷ at 2 7 ∷ at 3 6 ∷ at 4 6 ∷ at 5 5 ∷ at 2 6 ∷ at 3 7 ∷ at 6 5 ∷ [])
    ≡ true ∷ true ∷ true ∷ true ∷ true ∷ false ∷ false ∷ false ∷ []
known_lit = refl

-- The lowest bit is the first column.
pub known_byte : map (λ column. byte_at (with_thumb_point (with_thumb_point no_points (at 8 3)) (at 15 3)) column 3) (0 ∷ 8 ∷ 16 ∷ [])
    ≡ 0 ∷ 129 ∷ 0 ∷ []
known_byte = refl

-- A stitch of 39 across in the first block. In the second a needle, a jump of 39 down that isn't drawn, and a needle after a trim.
abbrev design : DesignValue
design = record {
  label = [];
  threads = [];
  commands = Stitch (point (pos 0) (pos 0)) ∷ Stitch (point (pos 39) (pos 0)) ∷ command.Stop
      ∷ Stitch (point (pos 0) (pos 29)) ∷ Jump (point (pos 39) (pos 29)) ∷ Stitch (point (pos 39) (pos 29)) ∷ command.Trim
      ∷ Stitch (point (pos 20) (pos 10)) ∷ [];
}

-- A row from column 4 to column 43, and one with the columns 4 and 43.
abbrev full_row : List ℕ
full_row = 240 ∷ 255 ∷ 255 ∷ 255 ∷ 255 ∷ 15 ∷ []

abbrev end_row : List ℕ
end_row = 16 ∷ 0 ∷ 0 ∷ 0 ∷ 0 ∷ 8 ∷ []

abbrev blank : ℕ → List ℕ
blank rows = replicate (6 * rows) 0

-- The needle at 20 across and 10 down, in column 24 of the fifteenth row.
abbrev single_row : List ℕ
single_row = 0 ∷ 0 ∷ 0 ∷ 1 ∷ 0 ∷ 0 ∷ []

pub known_whole : take THUMBNAIL_LENGTH (drawn_thumbnails_of design)
    ≡ blank 4 ++ (full_row ++ (blank 9 ++ (single_row ++ (blank 18 ++ (end_row ++ blank 4)))))
unfolding thumb_bytes
known_whole = refl

pub known_blocks : drop THUMBNAIL_LENGTH (drawn_thumbnails_of design) ≡ (blank 4 ++ (full_row ++ blank 33))
    ++ (blank 14 ++ (single_row ++ (blank 18 ++ (end_row ++ blank 4))))
unfolding thumb_bytes
known_blocks = refl

-- A design without commands has two thumbnails, both blank.
pub known_blank : drawn_thumbnails_of (record { label = []; threads = []; commands = [] }) ≡ replicate (2 * THUMBNAIL_LENGTH) 0
unfolding thumb_bytes
known_blank = refl
