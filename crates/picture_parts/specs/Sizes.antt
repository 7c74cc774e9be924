-- The size that a picture is to fit, in whole millimetres, and the scale that it then has. Sheets
-- are in tenths of a millimetre (own).
use Rattle.std.specs.Prelude.{ℕ, ◌+◌, ◌*◌, ◌/◌, ◌||◌, max, min, nat_lt, Bool, List, [], ◌∷◌, ◌++◌, Option, Some, None, codes, if◌then◌else◌}
use Rattle.picture_parts.specs.declared.sheet.Sheet.{Sheet}
use Rattle.picture_parts.specs.declared.sizes.PictureSize.{PictureSize}
use Rattle.picture_parts.specs.Parts.{filled, mm_text}

-- The width of the picture of a sheet, in tenths of a millimetre: the wanted one, or its own.
abbrev pub width_in : Option PictureSize → ℕ → ℕ
width_in (Some size) width = 10 * size.width
width_in None width = width

-- The height of the picture of a sheet, in tenths of a millimetre.
abbrev pub height_in : Option PictureSize → ℕ → ℕ
height_in (Some size) height = 10 * size.height
height_in None height = height

-- A quotient, rounded to the nearest whole number, and a half upwards.
abbrev pub rounded_quotient : ℕ → ℕ → ℕ
rounded_quotient a b = (2 * a + b) / (2 * max b 1)

-- A sheet is wider or higher than the size that its picture is to fit.
abbrev pub is_smaller : PictureSize → Sheet → Bool
is_smaller size sheet =
    nat_lt (10 * size.width) sheet.width || nat_lt (10 * size.height) sheet.height

-- How many tenths of its size a sheet has for one of the picture's: by the side that fits worse.
abbrev pub reduction_of : PictureSize → Sheet → ℕ
reduction_of size sheet = max (rounded_quotient sheet.width size.width)
    (rounded_quotient sheet.height size.height)

-- How many tenths of the sheet's size its picture has.
abbrev pub enlargement_of : PictureSize → Sheet → ℕ
enlargement_of size sheet = min (rounded_quotient (100 * size.width) sheet.width)
    (rounded_quotient (100 * size.height) sheet.height)

-- The scale of a sheet whose picture is to fit a size, in tenths.
abbrev pub scale_words : PictureSize → Sheet → List ℕ
scale_words size sheet = if is_smaller size sheet
    then filled (codes "scale 1 : @") (mm_text (reduction_of size sheet) ∷ [])
    else filled (codes "scale @ : 1") (mm_text (enlargement_of size sheet) ∷ [])

-- The scale between other characters, if the picture is to fit a size.
abbrev pub scale_if_sized : Option PictureSize → Sheet → (before after : List ℕ) → List ℕ
scale_if_sized (Some size) sheet before after = before ++ (scale_words size sheet ++ after)
scale_if_sized None sheet before after = []
