-- The picture of a design for customers and for pages of shops: the thread alone, on one colour.
-- The unit is a tenth of a millimetre, and the picture is shown in true size, or fits another one.
use Rattle.std.specs.Prelude.{ℕ, ◌+◌, ◌*◌, List, ◌++◌, Option, codes}
use Rattle.design_model.specs.declared.bounds.Extent.{Extent}
use Rattle.design_model.specs.Designs.{DesignValue}
use Rattle.design_model.specs.Extents.{extent_height, extent_of, extent_width}
use Rattle.design_picture.specs.declared.layout.TheConstants.{MARGIN}
use Rattle.design_picture.specs.declared.strokes.Stroke.{Stroke}
use Rattle.design_picture.specs.Layouts.{corners}
use Rattle.design_picture.specs.Pictures.{thread_paths}
use Rattle.design_picture.specs.Strokes.{strokes_of}
use Rattle.picture_parts.specs.declared.sheet.Sheet.{Sheet}
use Rattle.picture_parts.specs.declared.sizes.PictureSize.{PictureSize}
use Rattle.picture_parts.specs.Parts.{ended}
use Rattle.picture_parts.specs.PlainSheets.{plain_foot_text, plain_head_text, plain_title_text}
use Rattle.picture_parts.specs.Sizes.{scale_if_sized}

-- The sheet: the extent with a margin around it.
abbrev pub plain_sheet : Option Extent → Option PictureSize → Sheet
plain_sheet extent size = record {
  corner = (corners extent).min;
  width = extent_width extent + 2 * MARGIN;
  height = extent_height extent + 2 * MARGIN;
  size = size;
}

-- What the scale of a sheet is, in words, if its picture is to fit a size.
abbrev pub scale_description : Sheet → List ℕ
scale_description sheet =
    scale_if_sized sheet.size sheet (codes "<desc>") (ended (codes "</desc>"))

-- The picture of strokes that a design has, on a sheet of a colour of six hexadecimal digits.
unfoldable pub plain_picture_with : DesignValue → List ℕ → Sheet → List Stroke → List ℕ
plain_picture_with d digits sheet strokes = plain_head_text sheet digits
    ++ (scale_description sheet ++ (plain_title_text d.label MARGIN
    ++ (thread_paths d strokes ++ plain_foot_text)))

-- The picture of a design's thread alone.
abbrev pub plain_picture_of : DesignValue → List ℕ → Option PictureSize → List ℕ
plain_picture_of d digits size =
    plain_picture_with d digits (plain_sheet (extent_of d) size) (strokes_of d)
