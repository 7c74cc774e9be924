-- Worked values of marks at the needle (40, -7), of colours in the styles, and of the ends of a picture. A path that moves by m-23,-9
-- begins 2.3 mm to the left of the needle and 0.9 mm above it.
use Rattle.std.proofs.Common.{◌≡◌, ℕ, pos, negsuc, List, [], ◌∷◌, ◌++◌, codes, length, map, refl}
use Rattle.std.specs.Fmt.{digits}
use Rattle.std.specs.Prelude.{◌+◌, bytes_eq, drop, take, if◌then◌else◌}
use Rattle.picture_parts.proofs.PartFacts.{point}
use Rattle.picture_parts.specs.declared.marks.Mark.{Mark}
use Rattle.picture_parts.specs.declared.marks.Mark.TheVariants.{Start, End, Stop, Trim, Even, Odd, Loose}
use Rattle.picture_parts.specs.Marks.{mark_text, shape_at, mark_template}
use Rattle.picture_parts.specs.Parts.{around, filled}
use Rattle.picture_parts.specs.Paths.{coloured_path, move_text, path_end, path_start, radii_text, straight_text}
use Rattle.picture_parts.specs.Sheets.{foot_text, style_text}

-- The mark at a needle.
abbrev marked : Mark → List ℕ
marked mark = mark_text mark (point (pos 40) (negsuc 6))

-- A start is a triangle on the left, whose corner points to the needle. An end is a square on the right, from 0.6 to 2 mm.
pub known_ends : (marked Start ≡ codes "<path class='start' d='M40,-7m-23,-9l18,9l-18,9z'/>" ++ 10 ∷ [])
    × (marked End ≡ codes "<path class='end' d='M40,-7m6,-7h14v14h-14z'/>" ++ 10 ∷ [])
unfolding digits filled mark_text shape_at
known_ends = (refl, refl)

-- A stop is two bars right of the square, and a trim a cross below the needle.
pub known_stop_and_trim : (marked Stop ≡ codes "<path class='stop' d='M40,-7m25,-7h4v14h-4zm8,0h4v14h-4z'/>" ++ 10 ∷ [])
    × (marked Trim ≡ codes "<path class='trim' d='M40,-7m-6,8l12,12m-12,0l12,-12'/>" ++ 10 ∷ [])
unfolding digits filled mark_text shape_at
known_stop_and_trim = (refl, refl)

-- An even junction is a black dot, an odd one a larger yellow dot, and a loose end a red ring.
pub known_dots : (marked Even ≡ codes "<path fill='#222' d='M40,-7m-5,0a5,5,0,1,0,10,0a5,5,0,1,0,-10,0'/>" ++ 10 ∷ [])
    × (marked Odd ≡ codes "<path fill='#ffd400' stroke='#222' stroke-width='2' d='M40,-7m-9,0a9,9,0,1,0,18,0a9,9,0,1,0,-18,0'/>" ++ 10 ∷ [])
    × (marked Loose ≡ codes "<path fill='none' stroke='#d00' stroke-width='3' d='M40,-7m-15,0a15,15,0,1,0,30,0a15,15,0,1,0,-30,0'/>"
    ++ 10 ∷ [])
unfolding digits filled mark_text shape_at
known_dots = (refl, refl, refl)

-- The text after the first place of some words.
abbrev text_after_words : List ℕ → List ℕ → List ℕ
text_after_words words [] = []
text_after_words words (c ∷ text) = if bytes_eq (take (length words) (c ∷ text)) words then drop (length words) (c ∷ text)
    else text_after_words words text

-- The colour after some words of the styles, with n digits.
abbrev style_colour : ℕ → List ℕ → List ℕ
style_colour n words = take (1 + n) (text_after_words words style_text)

-- A start is green and an end red, and a needle hole dark. The outline of a hoop that is too small is red.
pub known_styles :
    (map (style_colour 6) (codes ".start{fill:" ∷ codes ".end{fill:" ∷ [])
    ≡ codes "#1a7f37" ∷ codes "#b3261e" ∷ [])
    × (map (style_colour 3) (codes ".hole{fill:none;stroke:" ∷ codes ".over{stroke:" ∷ []) ≡ codes "#222" ∷ codes "#d00" ∷ [])
known_styles = (refl, refl)

-- A path of a class and a path of a class and a colour, with a move and a stitch.
pub known_path : path_start (codes "hole") ++ (coloured_path (codes "thread") (codes "#000000")
    ++ (move_text (point (pos 1) (pos 2)) ++ (straight_text (point (negsuc 2) (pos 4)) ++ path_end)))
    ≡ codes "<path class='hole' d='<path class='thread' stroke='#000000' d='" ++ (10 ∷ codes "M1,2L-3,4'/>" ++ 10 ∷ [])
unfolding around coloured_path digits filled move_text path_end path_start straight_text
known_path = refl

-- The end of a picture ends the groups of the texts and of what is shown.
pub known_foot : foot_text ≡ codes "</g>" ++ (10 ∷ codes "</g>" ++ (10 ∷ codes "</svg>" ++ 10 ∷ []))
unfolding filled foot_text
known_foot = refl

-- a shape has its needle at the mark
pub known_templates : (mark_template Stop ≡ codes "<path class='stop' d='M@m25,-7h4v14h-4zm8,0h4v14h-4z'/>\n")
    × (mark_template Loose ≡ codes "<path fill='none' stroke='#d00' stroke-width='3' d='M@m-15,0a15,15,0,1,0,30,0a15,15,0,1,0,-30,0'/>\n")
known_templates = (refl, refl)

-- the beginning of an arc of 1.2 mm
pub known_radii : radii_text 12 ≡ codes "A12,12"
unfolding digits radii_text
known_radii = refl
