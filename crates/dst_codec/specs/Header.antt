-- The header of a DST file: 124 bytes of fields, the byte 1A, and spaces up to 512 bytes. Lengths
-- are in tenths of a millimetre, measured over the needles. The file's y points upwards.
use Rattle.std.specs.Prelude.{ℕ, ◌<◌, ◌^◌, suc, max, ℤ, pos, negsuc, neg_ℤ, unsigned_abs, List, [], ◌∷◌, ◌++◌, decimal, codes}
use Rattle.design_model.specs.declared.act.Act.{Act}
use Rattle.design_model.specs.declared.act.Act.TheVariants.{Needle, Trim, Stop}
use Rattle.design_model.specs.declared.act.NumberedAct.{NumberedAct}
use Rattle.design_model.specs.declared.point.Point.{Point}
use Rattle.design_model.specs.Points.{origin}
use Rattle.format_traits.specs.LabelFields.{padded_left, padded_right, label_field}
use Rattle.design_model.specs.ActPositions.{needle_position_along}
use Rattle.format_traits.specs.Refusals.{stops_of}
use Rattle.dst_codec.specs.declared.header.Extents.{Extents}
use Rattle.dst_codec.specs.declared.header.HeaderNumbers.{HeaderNumbers}
use Rattle.dst_codec.specs.declared.header.TheConstants.{HEADER_LENGTH}

-- A number that is above 0; else 0.
abbrev pub size_above_zero : ℤ → ℕ
size_above_zero (pos n) = n
size_above_zero (negsuc n) = 0

-- The size of a number that is below 0; else 0.
abbrev pub size_below_zero : ℤ → ℕ
size_below_zero (pos n) = 0
size_below_zero (negsuc n) = suc n

-- A measure of a needle; 0 for any other act.
abbrev pub needle_measure : (Point → ℕ) → Act → ℕ
needle_measure measure (Needle p float) = measure p
needle_measure measure Trim = 0
needle_measure measure Stop = 0

-- The greatest measure of a needle among acts; 0 without a needle.
abbrev pub max_measure : (Point → ℕ) → List NumberedAct → ℕ
max_measure measure [] = 0
max_measure measure (a ∷ rest) = max (needle_measure measure a.act) (max_measure measure rest)

-- A field of the header: its name, its contents and a carriage return.
abbrev pub field : List ℕ → List ℕ → List ℕ
field name contents = name ++ contents ++ 13 ∷ []

-- A field of a number, padded with spaces at its left to `places` bytes.
abbrev pub number_field : List ℕ → ℕ → ℕ → List ℕ
number_field name places n = field name (padded_left places (decimal n))

-- The code of the sign of a number: + or -.
abbrev pub sign_code : ℤ → ℕ
sign_code (pos n) = 43
sign_code (negsuc n) = 45

-- A field of a sign and of a number, padded to five bytes.
abbrev pub signed_field : List ℕ → ℤ → List ℕ
signed_field name z = field name (sign_code z ∷ padded_left 5 (decimal (unsigned_abs z)))

-- The greatest distances of needles from the origin, in four directions.
abbrev pub extents_of : List NumberedAct → Extents
extents_of acts = record {
  right = max_measure (λ p. size_above_zero p.x) acts;
  left = max_measure (λ p. size_below_zero p.x) acts;
  up = max_measure (λ p. size_below_zero p.y) acts;
  down = max_measure (λ p. size_above_zero p.y) acts;
}

-- The numbers of a header: the number of records, and those that are computed from the acts.
abbrev pub numbers_of : List NumberedAct → ℕ → HeaderNumbers
numbers_of acts count = record {
  records = count;
  stops = stops_of acts;
  extents = extents_of acts;
  last = needle_position_along origin acts;
}

-- Each number of a header fits its field.
pub record FitsFields (numbers : HeaderNumbers) : Type 0 where
  pub records : numbers.records < 10 ^ 7
  pub stops : numbers.stops < 10 ^ 3
  pub right : numbers.extents.right < 10 ^ 5
  pub left : numbers.extents.left < 10 ^ 5
  pub up : numbers.extents.up < 10 ^ 5
  pub down : numbers.extents.down < 10 ^ 5
  pub x : unsigned_abs numbers.last.x < 10 ^ 5
  pub y : unsigned_abs numbers.last.y < 10 ^ 5

-- The fields of a header, by a label and numbers.
abbrev pub fields_of : List ℕ → HeaderNumbers → List ℕ
fields_of label numbers = field (codes "LA:") (label_field label)
    ++ number_field (codes "ST:") 7 numbers.records
    ++ number_field (codes "CO:") 3 numbers.stops
    ++ number_field (codes "+X:") 5 numbers.extents.right
    ++ number_field (codes "-X:") 5 numbers.extents.left
    ++ number_field (codes "+Y:") 5 numbers.extents.up
    ++ number_field (codes "-Y:") 5 numbers.extents.down
    ++ signed_field (codes "AX:") numbers.last.x
    ++ signed_field (codes "AY:") (neg_ℤ numbers.last.y)
    ++ signed_field (codes "MX:") (pos 0)
    ++ signed_field (codes "MY:") (pos 0)
    ++ field (codes "PD:") (codes "******")

-- The fields of a header, by a label, acts and the number of records.
abbrev pub header_fields : List ℕ → List NumberedAct → ℕ → List ℕ
header_fields label acts count = fields_of label (numbers_of acts count)

-- The header of 512 bytes, by a label and numbers.
abbrev pub dst_header_of : List ℕ → HeaderNumbers → List ℕ
dst_header_of label numbers = padded_right HEADER_LENGTH (fields_of label numbers ++ 26 ∷ [])

-- The header of 512 bytes, by a label, acts and the number of records.
abbrev pub header : List ℕ → List NumberedAct → ℕ → List ℕ
header label acts count = dst_header_of label (numbers_of acts count)
