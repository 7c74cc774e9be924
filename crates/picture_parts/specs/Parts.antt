-- SVG texts in parts. Points are in tenths of a millimetre, y downwards.
use Rattle.std.specs.Prelude.{ℕ, ◌+◌, ◌/◌, ◌%◌, ◌==◌, List, [], ◌∷◌, ◌++◌, codes, drop, take, if◌then◌else◌}
use Rattle.std.specs.List.{flat_map, position_or_len}
use Rattle.std.specs.Fmt.{decimal, signed_decimal}
use Rattle.design_model.specs.declared.point.Point.{Point}
use Rattle.picture_parts.specs.declared.parts.Part.{Part}
use Rattle.picture_parts.specs.declared.parts.Part.TheVariants.{Text, Escaped, Number, At, Mm}

-- The text of a point.
abbrev pub point_text : Point → List ℕ
point_text p = signed_decimal p.x ++ (codes "," ++ signed_decimal p.y)

-- A point between other characters.
unfoldable pub around : List ℕ → Point → List ℕ → List ℕ
around before p after = before ++ (point_text p ++ after)

-- The text of a length in millimetres, from tenths of a millimetre.
abbrev pub mm_text : ℕ → List ℕ
mm_text tenths = decimal (tenths / 10) ++ (codes "." ++ decimal (tenths % 10))

-- A line of text, with its end.
abbrev pub ended : List ℕ → List ℕ
ended line = line ++ 10 ∷ []

-- A character of a label in XML: `<` and `&` are escaped.
abbrev pub escaped_byte : ℕ → List ℕ
escaped_byte byte = if byte == 60 then codes "&lt;"
    else (if byte == 38 then codes "&amp;" else byte ∷ [])

-- A label in XML.
abbrev pub escaped_text : List ℕ → List ℕ
escaped_text label = flat_map escaped_byte label

-- The text of a part.
abbrev pub part_text : Part → List ℕ
part_text (Text bytes) = bytes.now
part_text (Escaped label) = escaped_text label.now
part_text (Number n) = decimal n
part_text (At p) = point_text p
part_text (Mm tenths) = mm_text tenths

-- The number of bytes of a template before its first mark, `@` (64), or of all without a mark.
abbrev pub length_to_mark : List ℕ → ℕ
length_to_mark template = position_or_len (λ byte. byte == 64) template

-- A template before its first mark.
abbrev pub text_before : List ℕ → List ℕ
text_before template = take (length_to_mark template) template

-- A template after its first mark.
abbrev pub text_after : List ℕ → List ℕ
text_after template = drop (length_to_mark template + 1) template

-- A template with texts in the places of its marks, in order.
unfoldable pub filled : List ℕ → List (List ℕ) → List ℕ
filled template [] = template
filled template (part ∷ rest) = text_before template ++ (part ++ filled (text_after template) rest)
