-- The edits of a drawing that arguments represent: `shift=DX,DY`, `turn=Q`, `mirror=x` and
-- `mirror=y` as of a design, `centre`, `step=N`, `order=P,Q`, `start=X,Y` and `end=X,Y`.
use Rattle.std.specs.Prelude.{ℕ, List, [], ◌∷◌, Option, Some, None, bytes_eq, codes, is_some, option_map, unwrap_or, if◌then◌else◌}
use Rattle.command_words.specs.Arguments.{all_parsed, comma, equals_sign, natural_within, parsed_edit, point_within}
use Rattle.command_words.specs.Changes.{Change, move}
use Rattle.design_model.specs.declared.point.TheConstants.{NEEDLE_LIMIT}
use Rattle.design_model.specs.WholeNumbers.{parsed_whole}
use Rattle.drawing_edits.specs.declared.drawing_edit.DrawingEdit.{DrawingEdit}
use Rattle.drawing_edits.specs.declared.drawing_edit.DrawingEdit.TheVariants as edit
use Rattle.line_graph.specs.declared.limits.TheConstants.{MAX_LINES}
use Rattle.step_splitter.specs.declared.segment.TheConstants.{MAX_STEP}
use Rattle.text_parts.specs.Parts.{split_at_byte}

-- The edit of a drawing that a change of a design is, if it moves points.
abbrev pub moving_edit : Option Change → Option DrawingEdit
moving_edit None = None
moving_edit (Some (move by)) = Some (edit.Move by)
moving_edit (Some other) = None

-- The edit that orders two pieces, if there are both numbers.
abbrev pub order_if_both : Option ℕ → Option ℕ → Option DrawingEdit
order_if_both (Some first) (Some second) = Some (edit.Order first second)
order_if_both None second = None
order_if_both (Some first) None = None

-- The order of two pieces by the numbers before and after a comma, each from 1 to MAX_LINES.
abbrev pub parsed_order : Option (List ℕ × List ℕ) → Option DrawingEdit
parsed_order None = None
parsed_order (Some (first, second)) =
    order_if_both (natural_within 1 MAX_LINES (parsed_whole first))
    (natural_within 1 MAX_LINES (parsed_whole second))

-- The edit of an argument with the given name before the equals sign and value after it.
abbrev pub parsed_named_drawing_edit : List ℕ → (name value : List ℕ) → Option DrawingEdit
parsed_named_drawing_edit word name value =
    if bytes_eq name (codes "step")
    then option_map edit.Step (natural_within 1 MAX_STEP (parsed_whole value))
    else if bytes_eq name (codes "order") then parsed_order (split_at_byte comma value)
    else if bytes_eq name (codes "start")
    then option_map edit.Start (point_within NEEDLE_LIMIT (split_at_byte comma value))
    else if bytes_eq name (codes "end")
    then option_map edit.End (point_within NEEDLE_LIMIT (split_at_byte comma value))
    else moving_edit (parsed_edit word)

-- The edit of an argument with the given parts before and after the equals sign.
abbrev pub parsed_drawing_edit_parts : List ℕ → Option (List ℕ × List ℕ) → Option DrawingEdit
parsed_drawing_edit_parts word None = None
parsed_drawing_edit_parts word (Some (name, value)) = parsed_named_drawing_edit word name value

-- The edit of a drawing that an argument represents, if it represents one.
abbrev pub parsed_drawing_edit : List ℕ → Option DrawingEdit
parsed_drawing_edit word =
    if bytes_eq word (codes "centre") then Some edit.Centre
    else parsed_drawing_edit_parts word (split_at_byte equals_sign word)

-- The edits that arguments represent, if each of them is an edit of a drawing.
abbrev pub parsed_drawing_edits : List (List ℕ) → Option (List DrawingEdit)
parsed_drawing_edits words = all_parsed parsed_drawing_edit words

-- The edits that arguments represent, or none where one of them represents no edit.
abbrev pub drawing_edits_of : List (List ℕ) → List DrawingEdit
drawing_edits_of words = unwrap_or (parsed_drawing_edits words) []

-- The first argument that is no edit of a drawing, if there is one.
abbrev pub first_mistaken_edit : List (List ℕ) → Option (List ℕ)
first_mistaken_edit [] = None
first_mistaken_edit (word ∷ words) =
    if is_some (parsed_drawing_edit word) then first_mistaken_edit words else Some word
