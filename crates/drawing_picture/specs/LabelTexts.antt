-- How labels are drawn: a number left or right of the grid, and a thin line to what it names.
use Rattle.std.specs.Prelude.{ℕ, ◌*◌, Bool, true, false, List, [], ◌∷◌, ◌++◌, codes}
use Rattle.std.specs.Fmt.{decimal}
use Rattle.std.specs.List.{flat_map}
use Rattle.design_picture.specs.Captions.{group_end}
use Rattle.drawing_picture.specs.declared.grid.Grid.{Grid}
use Rattle.drawing_picture.specs.declared.labels.HalfPoint.{HalfPoint}
use Rattle.drawing_picture.specs.declared.labels.Label.{Label}
use Rattle.drawing_picture.specs.declared.label_order.Side.{Side}
use Rattle.drawing_picture.specs.declared.label_order.Side.TheVariants as side
use Rattle.picture_parts.specs.Parts.{ended, filled}
use Rattle.drawing_picture.specs.LabelOrders.{PlacedLabel, placed_labels}

-- What comes before the number of a piece, and before that of a line.
abbrev pub label_prefix : Bool → List ℕ
label_prefix true = codes "P"
label_prefix false = []

-- A label left of an edge, in a row, with the line and the dot at what it names.
unfoldable pub left_label : (edge row : ℕ) → HalfPoint → (prefix : List ℕ) → ℕ → List ℕ
left_label edge row at prefix number =
    filled (codes "<path d='M@,@m-68,0h28L@,@'/><path stroke-width='10' d='M@,@h0'/><text"
    ++ (codes " class='small' style='fill:#1d3bd1;font-size:40px;stroke-width:10' text-anchor='end'"
    ++ ended (codes " x='@' y='@' dx='-76' dy='14'>@@</text>")))
    (decimal edge ∷ decimal row ∷ decimal at.x ∷ decimal at.y ∷ decimal at.x ∷ decimal at.y
    ∷ decimal edge ∷ decimal row ∷ prefix ∷ decimal number ∷ [])

-- A label right of an edge, in a row, with the line and the dot at what it names.
unfoldable pub right_label : (edge row : ℕ) → HalfPoint → (prefix : List ℕ) → ℕ → List ℕ
right_label edge row at prefix number =
    filled (codes "<path d='M@,@m68,0h-28L@,@'/><path stroke-width='10' d='M@,@h0'/><text"
    ++ (codes " class='small' style='fill:#1d3bd1;font-size:40px;stroke-width:10'"
    ++ ended (codes " x='@' y='@' dx='76' dy='14'>@@</text>")))
    (decimal edge ∷ decimal row ∷ decimal at.x ∷ decimal at.y ∷ decimal at.x ∷ decimal at.y
    ∷ decimal edge ∷ decimal row ∷ prefix ∷ decimal number ∷ [])

-- A label in its row, on a side of a grid.
abbrev pub label_text : Side → Grid → Label → ℕ → List ℕ
label_text side.Left g l row =
    left_label (2 * g.left) row l.at (label_prefix l.is_piece) l.number
label_text side.Right g l row =
    right_label (2 * g.right) row l.at (label_prefix l.is_piece) l.number

-- Labels in their rows, on a side of a grid.
abbrev pub placed_texts : Side → Grid → List PlacedLabel → List ℕ
placed_texts s g placed = flat_map (λ (p : PlacedLabel). label_text s g p.label p.row) placed

-- The labels of a side.
abbrev pub side_text : Side → Grid → List Label → List ℕ
side_text s g labels = placed_texts s g (placed_labels (2 * g.bottom) (2 * g.top) labels)

-- The beginning of the labels.
unfoldable pub labels_start : List ℕ
labels_start = filled (codes "<g transform='translate(-30000,-30000) scale(.5)' fill='none'"
    ++ ended (codes " stroke='#1d3bd1' stroke-width='2'>")) []

-- The labels on both sides.
abbrev pub labels_text : Grid → (left right : List Label) → List ℕ
labels_text g left right =
    labels_start ++ (side_text side.Left g left ++ (side_text side.Right g right ++ group_end))
