-- Where the parts of a picture are: what is shown, with space around it, and texts below it.
-- Lengths are in tenths of a millimetre.
use Rattle.std.specs.Prelude.{ℕ, ◌+◌, ◌-◌, ◌*◌, ◌/◌, max, List, [], ◌∷◌, ◌++◌, Option, Some, None, codes}
use Rattle.std.specs.Fmt.{decimal}
use Rattle.design_model.specs.declared.bounds.Extent.{Extent}
use Rattle.design_model.specs.declared.point.Point.{Point}
use Rattle.design_model.specs.Extents.{extent_at, extent_height, extent_width}
use Rattle.design_model.specs.Points.{origin}
use Rattle.design_picture.specs.declared.block_line.TheConstants.{LINE_HEIGHT}
use Rattle.design_picture.specs.declared.hoop.Hoop.{Hoop}
use Rattle.design_picture.specs.declared.layout.Area.{Area}
use Rattle.design_picture.specs.declared.layout.TheConstants.{MARGIN, MIN_WIDTH, TEXT_HEIGHT}
use Rattle.picture_parts.specs.declared.sheet.Sheet.{Sheet}
use Rattle.picture_parts.specs.declared.sizes.PictureSize.{PictureSize}
use Rattle.picture_parts.specs.Parts.{ended, escaped_text, filled, mm_text, point_text}
use Rattle.picture_parts.specs.Sheets.{sheet_head}
use Rattle.picture_parts.specs.Sizes.{scale_if_sized}

-- The corners of an extent; the origin for both without one.
abbrev pub corners : Option Extent → Extent
corners None = extent_at origin
corners (Some extent) = extent

-- The space at a side: half of what a hoop is longer than the design, and the margin.
abbrev pub side_of : ℕ → ℕ → ℕ
side_of hoop design = (hoop - design + 1) / 2 + MARGIN

-- The area of an extent, with room for a hoop.
abbrev pub area_of : Option Extent → Hoop → ℕ → Option PictureSize → Area
area_of extent hoop lines size = record {
  corners = corners extent;
  side = side_of hoop.width (extent_width extent);
  above = side_of hoop.height (extent_height extent);
  lines = lines;
  size = size;
}

-- The sheet of an area.
abbrev pub sheet_of : Area → Sheet
sheet_of area = record {
  corner = area.corners.min;
  width = max (extent_width (Some area.corners)) MIN_WIDTH + 2 * area.side;
  height = extent_height (Some area.corners) + 2 * area.above + TEXT_HEIGHT
      + LINE_HEIGHT * area.lines;
  size = area.size;
}

-- The title and what a picture shows in words, and the group of what is shown, moved by the space
-- around it.
unfoldable pub title_text : Area → (label words : List ℕ) → List ℕ
title_text area label words = filled (codes "<title>Embroidery @</title>" ++ (10 ∷ codes "<desc>@"
    ++ (ended (codes "</desc>") ++ ended (codes "<g transform='translate(@,@)'>"))))
    (escaped_text label ∷ words ∷ decimal area.side ∷ decimal area.above ∷ [])

-- The text before what is shown.
unfoldable pub top_text : Area → (label words : List ℕ) → List ℕ
top_text area label words = sheet_head (sheet_of area) ++ title_text area label words

-- The lower left corner of what is shown.
abbrev pub lower_left : Extent → Point
lower_left corners = record { x = corners.min.x; y = corners.max.y }

-- The group of the texts below what is shown, with a bar of 10 mm, a label and a size.
unfoldable pub below_start : Point → ℕ → List ℕ → (width height : ℕ) → List ℕ
below_start corner above label width height =
    filled (ended (codes "<g transform='translate(@) translate(0,@)'>")
    ++ (codes "<path class='line' d='M0,-6v12m0,-6h100m0,-6v12'/><text x='112' y='7'>10 mm</text>"
    ++ (10 ∷ ended (codes "<text y='44'>@ @ x @ mm</text>"))))
    (point_text corner ∷ decimal above ∷ escaped_text label ∷ mm_text width ∷ mm_text height ∷ [])

-- The scale, right of the bar of 10 mm, if the picture is to fit a size.
abbrev pub scale_key : Area → List ℕ
scale_key area = scale_if_sized area.size (sheet_of area) (codes "<text x='220' y='7'>")
    (ended (codes "</text>"))

-- The beginning of the texts below what is shown, with a label and the size of an extent.
unfoldable pub below_head : Area → List ℕ → (width height : ℕ) → List ℕ
below_head area label width height =
    below_start (lower_left area.corners) area.above label width height ++ scale_key area
