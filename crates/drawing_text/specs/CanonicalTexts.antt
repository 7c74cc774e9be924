-- The canonical text of a drawing, as bytes of ASCII (elsewhere called the plain spelling). Own
-- format: each line ends with the byte 10, words are separated by one space (32), and numbers have
-- no leading zeros.
use Rattle.std.specs.Prelude.{ℕ, ◌+◌, ◌==◌, if◌then◌else◌, List, [], ◌∷◌, ◌++◌, length, codes, filter}
use Rattle.std.specs.Fmt.{decimal, signed_decimal}
use Rattle.std.specs.List.{flat_map}
use Rattle.design_model.specs.declared.point.Point.{Point}
use Rattle.line_sections.specs.Lines.{LineValue}
use Rattle.line_graph.specs.Drawings.{DrawingValue}
use Rattle.drawing_text.specs.declared.version.Version.{Version}
use Rattle.drawing_text.specs.declared.version.Version.TheVariants as version

-- The text of a point: two numbers, each after a space.
abbrev pub spaced_point_text : Point → List ℕ
spaced_point_text p = (32 ∷ signed_decimal p.x) ++ (32 ∷ signed_decimal p.y)

-- The text of a line's points, and the end of the text line.
abbrev pub points_text : List Point → List ℕ
points_text [] = 10 ∷ []
points_text (p ∷ rest) = spaced_point_text p ++ points_text rest

-- The text line of a line of the drawing.
abbrev pub line_text : LineValue → List ℕ
line_text line = codes "line" ++ points_text line.points

-- The lines of one block, in order.
abbrev pub lines_of_block : ℕ → List LineValue → List LineValue
lines_of_block block lines = filter (λ line. line.block == block) lines

-- A text line of a keyword and one number. The keyword includes its space.
abbrev pub number_line_text : List ℕ → ℕ → List ℕ
number_line_text word number = word ++ (decimal number ++ 10 ∷ [])

-- The text of a block: its thread and its lines.
abbrev pub block_text : ℕ → ℕ → List LineValue → List ℕ
block_text block thread lines =
    number_line_text (codes "color ") thread ++ flat_map line_text (lines_of_block block lines)

-- The text of blocks with the given threads, from the given block on.
abbrev pub blocks_text : ℕ → List ℕ → List LineValue → List ℕ
blocks_text block [] lines = []
blocks_text block (thread ∷ rest) lines =
    block_text block thread lines ++ blocks_text (block + 1) rest lines

-- The text line of the label, or nothing for an empty label.
abbrev pub label_text : List ℕ → List ℕ
label_text label = if length label == 0 then [] else codes "name " ++ (label ++ 10 ∷ [])

-- The words of the header, by version.
abbrev pub header_text : Version → List ℕ
header_text version.One = codes "redwork 1"
header_text version.Two = codes "redwork 2"
header_text version.Three = codes "redwork 3"

-- The canonical text of a drawing in a version.
abbrev pub canonical_text_in : Version → DrawingValue → List ℕ
canonical_text_in version d = header_text version ++ (10 ∷ (label_text d.label
    ++ (number_line_text (codes "step ") d.step ++ blocks_text 0 d.threads d.lines)))

-- The canonical text of a drawing in version 1.
abbrev pub canonical_text : DrawingValue → List ℕ
canonical_text = canonical_text_in version.One

-- The canonical text of a drawing in version 2.
abbrev pub canonical_text2 : DrawingValue → List ℕ
canonical_text2 = canonical_text_in version.Two
