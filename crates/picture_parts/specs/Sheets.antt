-- The sheet that a picture is drawn on: a text of SVG 1.1, the standard of the World Wide Web
-- Consortium. The unit is a tenth of a millimetre. A picture has its true size, or fits another.
use Rattle.std.specs.Prelude.{ℕ, List, [], ◌∷◌, ◌++◌, codes}
use Rattle.std.specs.Fmt.{decimal}
use Rattle.picture_parts.specs.declared.sheet.Sheet.{Sheet}
use Rattle.picture_parts.specs.Parts.{ended, filled, mm_text, point_text}
use Rattle.picture_parts.specs.Sizes.{height_in, width_in}

-- The styles of texts, threads, needle holes, travels, marks and bands, and the arrows along a
-- thread and along a travel.
abbrev pub style_text : List ℕ
style_text =
    codes "<style>text{font:22px sans-serif;fill:#222;paint-order:stroke;stroke:#d9d1be;s"
    ++ (codes "troke-width:5;stroke-linejoin:round}"
    ++ (10 ∷ codes "path{stroke-linecap:round;stroke-linejoin:round}.thread{fill:none;"
    ++ (codes "stroke-width:3}"
    ++ (10 ∷ codes ".again{fill:none;stroke-width:3;stroke-dasharray:6 5;stroke-linecap:butt}"
    ++ (codes ".outside{fill:none;stroke:#d00;stroke-width:8;opacity:.6}"
    ++ (10 ∷ codes ".hole{fill:none;stroke:#222;stroke-width:2.6}.line{fill:none;stroke:#555;strok"
    ++ (codes "e-width:1.5}"
    ++ (10 ∷ codes ".travel{fill:none;stroke:#555;stroke-width:1.5;stroke-dasharray:6 5;marker-end"
    ++ (codes ":url(#way)}.arrow{fill:none;stroke:none;marker-end:url(#dart)}"
    ++ (10 ∷ codes ".start{fill:#1a7f37;stroke:#fff;stroke-width:1.5}.end{fill:#b3261e;stroke:#fff"
    ++ (codes ";stroke-width:1.5}.trim{fill:none;stroke:#222;stroke-width:2}.stop{fill:#fff;s"
    ++ (codes "troke:#222;stroke-width:2}"
    ++ (10 ∷ codes ".small{font-size:17px}.over{stroke:#d00}.band{fill:none;stroke-width:30;stroke"
    ++ (codes "-linecap:butt;opacity:.6}</style>"
    ++ (10 ∷ codes "<defs><marker id='dart' markerUnits='userSpaceOnUse' markerWidth='16' markerHe"
    ++ (codes "ight='16' refX='17' refY='8' orient='auto'>"
    ++ (codes "<path d='M3,2.5L15,8L3,13.5L6,8z' fill='#222' stroke='#fff' stroke-width='1'/>"
    ++ (codes "</marker>"
    ++ (10 ∷ codes "<marker id='way' markerUnits='userSpaceOnUse' markerWidth='16' markerHeight='1"
    ++ (codes "6' refX='19' refY='8' orient='auto'>"
    ++ (codes "<path d='M4,3L13,8L4,13' fill='none' stroke='#555' stroke-width='1.5'/></marke"
    ++ (ended (codes "r></defs>")))))))))))))))))))))))

-- The text before the title of a picture of a width and a height: these in millimetres, the
-- rectangle that it shows, the sheet in the colour of unbleached cloth, styles and arrows.
unfoldable pub head_text : Sheet → (width height : ℕ) → List ℕ
head_text sheet width height =
    filled (codes "<svg xmlns='http://www.w3.org/2000/svg' width='@mm' height='@mm'"
    ++ (codes " viewBox='@,@,@'>" ++ (10 ∷ codes "<path fill='#d9d1be' d='M@h@v@h-@z'/>"
    ++ (10 ∷ codes "@"))))
    (mm_text width ∷ mm_text height ∷ point_text sheet.corner ∷ decimal sheet.width
    ∷ decimal sheet.height ∷ point_text sheet.corner ∷ decimal sheet.width ∷ decimal sheet.height
    ∷ decimal sheet.width ∷ style_text ∷ [])

-- The text before the title of the picture of a sheet.
abbrev pub sheet_head : Sheet → List ℕ
sheet_head sheet =
    head_text sheet (width_in sheet.size sheet.width) (height_in sheet.size sheet.height)

-- The end of a picture, and of the two groups that it ends with.
unfoldable pub foot_text : List ℕ
foot_text = filled (ended (codes "</g>") ++ (ended (codes "</g>") ++ ended (codes "</svg>"))) []
