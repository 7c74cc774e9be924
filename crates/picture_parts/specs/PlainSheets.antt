-- The sheet of a picture of the thread alone, on one colour.
use Rattle.std.specs.Prelude.{ℕ, List, [], ◌∷◌, ◌++◌, codes}
use Rattle.std.specs.Fmt.{decimal}
use Rattle.picture_parts.specs.declared.sheet.Sheet.{Sheet}
use Rattle.picture_parts.specs.Parts.{ended, escaped_text, filled, mm_text, point_text}
use Rattle.picture_parts.specs.Sizes.{height_in, width_in}

-- The text before the thread: the size in millimetres, the rectangle that is shown, the sheet in a
-- colour of six hexadecimal digits, and how threads look.
unfoldable pub plain_head_text : Sheet → List ℕ → List ℕ
plain_head_text sheet digits =
    filled (codes "<svg xmlns='http://www.w3.org/2000/svg' width='@mm' height='@mm'"
    ++ (codes " viewBox='@,@,@'>" ++ (10 ∷ codes "<path fill='#@' d='M@h@v@h-@z'/>"
    ++ (10 ∷ codes "<style>.thread{fill:none;stroke-width:3;stroke-linecap:round;"
    ++ ended (codes "stroke-linejoin:round}</style>")))))
    (mm_text (width_in sheet.size sheet.width) ∷ mm_text (height_in sheet.size sheet.height)
    ∷ point_text sheet.corner ∷ decimal sheet.width ∷ decimal sheet.height ∷ digits
    ∷ point_text sheet.corner ∷ decimal sheet.width ∷ decimal sheet.height ∷ decimal sheet.width
    ∷ [])

-- The title, and the group of the thread, moved by the space around it.
unfoldable pub plain_title_text : List ℕ → ℕ → List ℕ
plain_title_text label space = filled (codes "<title>Embroidery @</title>"
    ++ (10 ∷ ended (codes "<g transform='translate(@,@)'>")))
    (escaped_text label ∷ decimal space ∷ decimal space ∷ [])

-- The end of the picture, and of the group of the thread.
unfoldable pub plain_foot_text : List ℕ
plain_foot_text = filled (ended (codes "</g>") ++ ended (codes "</svg>")) []
