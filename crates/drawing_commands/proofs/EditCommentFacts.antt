-- Worked values of the comments of an edited drawing.
use Rattle.std.proofs.Common.{◌≡◌, ℕ, pos, true, false, List, [], ◌∷◌, Some, None, codes, refl}
use Rattle.design_edits.specs.declared.axis.Axis.TheVariants as axis
use Rattle.design_edits.specs.declared.motion.Motion.TheVariants as motion
use Rattle.design_model.specs.declared.point.Point.{Point}
use Rattle.drawing_commands.proofs.Names.{DrawingEdit, DrawingValue, comments_of_edits, orders_pieces, drawing_ordered_alone}
use Rattle.drawing_commands.specs.declared.text_reading.TextRead.{TextRead}
use Rattle.drawing_edits.specs.declared.drawing_edit.DrawingEdit.TheVariants as edit
use Rattle.drawing_text.specs.declared.version.Version.TheVariants as version
use Rattle.line_sections.specs.Sections.{lines_through}

abbrev at : ℕ → ℕ → Point
at x y = record { x = pos x; y = pos y }

-- orders, and other edits
pub known_is_order : (orders_pieces (edit.Order 2 1) ≡ true) × (orders_pieces (edit.Move (motion.Mirror axis.X)) ≡ false)
    × (orders_pieces edit.Centre ≡ false) × (orders_pieces (edit.Step 9) ≡ false) × (orders_pieces (edit.Start (at 0 0)) ≡ false)
    × (orders_pieces (edit.End (at 0 0)) ≡ false)
known_is_order = (refl, refl, refl, refl, refl, refl)

-- a drawing of lines in one block
abbrev of_lines : List (List Point) → DrawingValue
of_lines lines = record { label = []; step = 25; threads = 7 ∷ []; lines = lines_through 0 lines; starts = []; ends = [] }

-- the bar of a T, its stem, and a side beside it; the bar as it is drawn, and its halves
abbrev bar : List Point
bar = at 0 0 ∷ at 10 0 ∷ at 20 0 ∷ []

abbrev left : List Point
left = at 0 0 ∷ at 10 0 ∷ []

abbrev right : List Point
right = at 10 0 ∷ at 20 0 ∷ []

abbrev stem : List Point
stem = at 10 0 ∷ at 10 9 ∷ []

abbrev side : List Point
side = at 50 0 ∷ at 60 0 ∷ at 70 0 ∷ []

abbrev cut : DrawingValue
cut = of_lines (left ∷ right ∷ stem ∷ side ∷ [])

abbrev side_first : DrawingValue
side_first = of_lines (side ∷ left ∷ right ∷ stem ∷ [])

-- what is read of a text with that drawing, with the comments of its three lines
abbrev read_with : List (List ℕ) → TextRead
read_with comments = record {
  lines = record {
    drawing = cut;
    drawn = record { version = version.Two; drawing = of_lines (bar ∷ stem ∷ side ∷ []); ends = [] };
  };
  comments = record { top = codes "#t"; blocks = codes "#r" ∷ []; lines = comments; last = codes "#e" };
}

abbrev text : TextRead
text = read_with (codes "#bar" ∷ codes "#stem" ∷ codes "#side" ∷ [])

-- a shift to the right, and the side before the T; there is no third piece
abbrev shift : DrawingEdit
shift = edit.Move (motion.Shift (pos 1) (pos 0))

abbrev order : DrawingEdit
order = edit.Order 2 1

abbrev no_order : DrawingEdit
no_order = edit.Order 3 1

pub known_ordered_alone : (drawing_ordered_alone (shift ∷ edit.Centre ∷ []) cut ≡ None)
    × (drawing_ordered_alone (shift ∷ order ∷ []) cut ≡ Some side_first)
    × (drawing_ordered_alone (no_order ∷ []) cut ≡ None) × (drawing_ordered_alone (order ∷ no_order ∷ shift ∷ []) cut ≡ Some side_first)
    × (drawing_ordered_alone (order ∷ order ∷ []) cut ≡ Some cut)
known_ordered_alone = (refl, refl, refl, refl, refl)

-- the text has the given comments of lines after edits
abbrev HasComments : List DrawingEdit → DrawingValue → List (List ℕ) → Type 0
HasComments edits edited comments = comments_of_edits text edits edited
    ≡ record { top = codes "#t"; blocks = codes "#r" ∷ []; lines = comments; last = codes "#e" }

-- without orders each line keeps its comment, also where a start cuts a line
pub known_lines_kept : HasComments (edit.Step 25 ∷ []) cut (codes "#bar" ∷ [] ∷ codes "#stem" ∷ codes "#side" ∷ [])
    × HasComments (edit.Start (at 60 0) ∷ [])
    (of_lines (left ∷ right ∷ stem ∷ (at 50 0 ∷ at 60 0 ∷ []) ∷ (at 60 0 ∷ at 70 0 ∷ []) ∷ []))
    (codes "#bar" ∷ [] ∷ codes "#stem" ∷ codes "#side" ∷ [] ∷ [])
known_lines_kept = (refl, refl)

-- an order takes the comments of a piece along, whatever other edits do
pub known_lines_ordered : HasComments (order ∷ []) side_first (codes "#side" ∷ codes "#bar" ∷ [] ∷ codes "#stem" ∷ [])
    × HasComments (shift ∷ order ∷ [])
    (of_lines ((at 51 0 ∷ at 61 0 ∷ at 71 0 ∷ []) ∷ (at 1 0 ∷ at 11 0 ∷ []) ∷ (at 11 0 ∷ at 21 0 ∷ []) ∷ (at 11 0 ∷ at 11 9 ∷ []) ∷ []))
    (codes "#side" ∷ codes "#bar" ∷ [] ∷ codes "#stem" ∷ [])
    × HasComments (edit.Start (at 60 0) ∷ order ∷ [])
    (of_lines ((at 50 0 ∷ at 60 0 ∷ []) ∷ (at 60 0 ∷ at 70 0 ∷ []) ∷ left ∷ right ∷ stem ∷ []))
    (codes "#side" ∷ [] ∷ codes "#bar" ∷ [] ∷ codes "#stem" ∷ [])
known_lines_ordered = (refl, refl, refl)

-- without comments of lines those of blocks are left
pub known_no_comments_of_lines : comments_of_edits (read_with ([] ∷ [] ∷ [] ∷ [])) (order ∷ []) side_first
    ≡ record { top = codes "#t"; blocks = codes "#r" ∷ []; lines = []; last = codes "#e" }
known_no_comments_of_lines = refl
