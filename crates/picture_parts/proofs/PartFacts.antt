-- Worked values of parts and colours.
use Rattle.std.proofs.Common.{◌≡◌, ℤ, pos, negsuc, [], ◌∷◌, ◌++◌, None, codes, map, refl}
use Rattle.std.specs.Fmt.{digits}
use Rattle.design_model.specs.declared.point.Point.{Point}
use Rattle.picture_parts.specs.Colours.{colour_of_thread}
use Rattle.picture_parts.specs.Parts.{escaped_text, filled, mm_text, part_text, text_after}
use Rattle.picture_parts.specs.Sheets.{head_text, sheet_head, style_text}
use Rattle.picture_parts.specs.declared.parts.Part.TheVariants.{At, Mm, Number, Escaped, Text}

abbrev pub point : ℤ → ℤ → Point
point x y = record { x = x; y = y }

-- Red, Royal Purple, Leaf Green, Black and Applique, and two numbers beyond the palette.
pub known_colours : map colour_of_thread (5 ∷ 22 ∷ 37 ∷ 20 ∷ 64 ∷ 0 ∷ 65 ∷ []) ≡ codes "#ed171f" ∷ codes "#770176"
    ∷ codes "#66ba49" ∷ codes "#000000" ∷ codes "#ffc8c8" ∷ codes "#ffc8c8" ∷ codes "#0e1f7c" ∷ []
unfolding colour_of_thread
known_colours = refl

pub known_mm : map mm_text (1 ∷ 10000 ∷ []) ≡ codes "0.1" ∷ codes "1000.0" ∷ []
unfolding digits
known_mm = refl

pub known_escapes : escaped_text (codes "A<B&C>") ≡ codes "A&lt;B&amp;C>"
known_escapes = refl

-- Two parts, then more of either kind than of the other.
pub known_filled : filled (codes "a@b@c") (codes "1" ∷ codes "@" ∷ []) ++ (filled (codes "@@") (codes "2" ∷ [])
    ++ filled (codes "d") (codes "3" ∷ [])) ≡ codes "a1b@c2@d3"
unfolding filled
known_filled = refl

-- 30 mm by 26 mm, from 5 mm left of the origin
pub known_head : sheet_head (record { corner = point (negsuc 49) (pos 7); width = 300; height = 260; size = None })
    ≡ codes "<svg xmlns='http://www.w3.org/2000/svg' width='30.0mm' height='26.0mm' viewBox='-50,7,300,260'>"
    ++ (10 ∷ codes "<path fill='#d9d1be' d='M-50,7h300v260h-300z'/>" ++ (10 ∷ style_text))
unfolding head_text filled digits
known_head = refl

-- after the first mark, and nothing after the end of a text without one
pub known_after : map text_after (codes "a@b@c" ∷ codes "@c" ∷ codes "abc" ∷ []) ≡ codes "b@c" ∷ codes "c" ∷ [] ∷ []
known_after = refl

-- a number, a point, and a length in millimetres; a text stays, and a label is escaped
pub known_parts : map part_text (Number 120 ∷ At (point (pos 5) (negsuc 6)) ∷ Mm 123 ∷ []) ≡ codes "120" ∷ codes "5,-7" ∷ codes "12.3" ∷ []
unfolding digits
known_parts = refl

-- bytes stay, and those of a label are escaped
pub known_bytes : (bytes : _) → (part_text (Text bytes) ≡ bytes.now) × (part_text (Escaped bytes) ≡ escaped_text bytes.now)
known_bytes bytes = (refl, refl)
