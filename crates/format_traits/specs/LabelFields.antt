-- The label field in the header of a file: 16 bytes, padded with spaces.
use Rattle.std.specs.Prelude.{◌≡◌, ℕ, ◌-◌, ◌&&◌, List, [], ◌∷◌, ◌++◌, length, replicate, map, nat_le, ◌==◌, if◌then◌else◌}
use Rattle.design_model.specs.declared.design.TheConstants.{MAX_LABEL}
use Rattle.design_model.specs.Labels.{IsLabel}

-- A text padded with spaces at its right to `places` bytes.
abbrev pub padded_right : ℕ → List ℕ → List ℕ
padded_right places text = text ++ replicate (places - length text) 32

-- A text padded with spaces at its left to `places` bytes.
abbrev pub padded_left : ℕ → List ℕ → List ℕ
padded_left places text = replicate (places - length text) 32 ++ text

-- The field of a label: the label padded with spaces at its right.
abbrev pub label_field : List ℕ → List ℕ
label_field label = padded_right MAX_LABEL label

-- A byte as it is read in a label: a byte that no label may contain is read as a question mark.
abbrev pub printable_byte : ℕ → ℕ
printable_byte byte = if nat_le 32 byte && nat_le byte 126 then byte else 63

-- A byte before a text without spaces at its end: a space before the empty text is dropped.
abbrev pub byte_unless_end_space : ℕ → List ℕ → List ℕ
byte_unless_end_space byte [] = if byte == 32 then [] else byte ∷ []
byte_unless_end_space byte (next ∷ rest) = byte ∷ next ∷ rest

-- A text without the spaces at its end.
abbrev pub without_end_spaces : List ℕ → List ℕ
without_end_spaces [] = []
without_end_spaces (byte ∷ rest) = byte_unless_end_space byte (without_end_spaces rest)

-- The label that a field contains: unprintable bytes become question marks, and spaces at the end
-- are dropped.
abbrev pub label_in : List ℕ → List ℕ
label_in field = without_end_spaces (map printable_byte field)

-- A label field has its 16 bytes, and the label is read back from it.
pub record LabelFieldRoundTrips (label : List ℕ) : Type 0 where
  pub places : length (label_field label) ≡ MAX_LABEL
  pub back : label_in (label_field label) ≡ label

-- Theorem: each label is read back from its field.
abbrev pub LabelFieldsRoundTrip : Type 0
LabelFieldsRoundTrip = (label : List ℕ) → IsLabel label → LabelFieldRoundTrips label
