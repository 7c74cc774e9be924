-- The draft of a drawing after one more line of its text, or the fault of that line. Numbers are in
-- tenths of a millimetre, lines of the text are numbered from 1.
use Rattle.std.specs.Prelude.{ℕ, ℤ, pos, negsuc, ◌-◌, ◌==◌, Bool, true, false, not, ◌&&◌, ◌||◌, nat_le, unsigned_abs, List, [], ◌∷◌, ◌++◌, Option, Some, None, Result, Ok, Err, length, bytes_eq, codes, if◌then◌else◌}
use Rattle.design_model.specs.declared.point.Point.{Point}
use Rattle.design_model.specs.declared.point.TheConstants.{NEEDLE_LIMIT}
use Rattle.design_model.specs.declared.whole_number.Whole.{Whole}
use Rattle.design_model.specs.declared.whole_number.Whole.TheVariants as whole
use Rattle.design_model.specs.WholeNumbers.{parsed_whole}
use Rattle.step_splitter.specs.declared.segment.TheConstants.{MAX_STEP}
use Rattle.line_graph.specs.declared.draw_kind.DrawKind.{DrawKind}
use Rattle.line_graph.specs.declared.draw_kind.DrawKind.TheVariants as kind
use Rattle.line_graph.specs.Drawings.{DrawingValue}
use Rattle.line_graph.specs.GrowingDrawings.{and_then, block_added, empty_drawing, is_drawing_label, line_added}
use Rattle.drawing_text.specs.declared.draft.DrawingDraft.{DrawingDraft}
use Rattle.drawing_text.specs.declared.version.Version.{Version}
use Rattle.drawing_text.specs.declared.version.Version.TheVariants as version
use Rattle.drawing_text.specs.Words.{begins_comment, single_word}

-- A number from low to high, or the fault that it is out of range.
abbrev pub count_in_range : ℕ → ℕ → ℤ → Result ℕ DrawKind
count_in_range low high (pos n) = if nat_le low n && nat_le n high then Ok n else Err
    kind.OutOfRange
count_in_range low high (negsuc n) = Err kind.OutOfRange

-- The number from low to high that a word denotes, or its fault.
abbrev pub parsed_count : ℕ → ℕ → Whole → Result ℕ DrawKind
parsed_count low high whole.NotANumber = Err kind.BadNumber
parsed_count low high whole.Outside = Err kind.OutOfRange
parsed_count low high (whole.Value n) = count_in_range low high n

-- The coordinate of a needle point that a word denotes, or its fault.
abbrev pub parsed_coordinate : Whole → Result ℤ DrawKind
parsed_coordinate whole.NotANumber = Err kind.BadNumber
parsed_coordinate whole.Outside = Err kind.OutOfRange
parsed_coordinate (whole.Value n) = if nat_le (unsigned_abs n) NEEDLE_LIMIT then Ok n
    else Err kind.OutOfRange

-- The points that words denote, each by two coordinates, x before y, or the first fault. A single
-- coordinate at the end is the fault `FewPoints`.
abbrev pub parsed_points : List (List ℕ) → Result (List Point) DrawKind
parsed_points [] = Ok []
parsed_points (x ∷ []) = and_then (parsed_coordinate (parsed_whole x))
    (λ across. Err kind.FewPoints)
parsed_points (x ∷ y ∷ rest) =
    and_then (parsed_coordinate (parsed_whole x)) (λ across.
    and_then (parsed_coordinate (parsed_whole y)) (λ down.
    and_then (parsed_points rest) (λ points. Ok (record { x = across; y = down } ∷ points))))

-- The point that two words denote by its coordinates, x before y, or the fault.
abbrev pub parsed_point : List (List ℕ) → Result Point DrawKind
parsed_point (x ∷ y ∷ []) =
    and_then (parsed_coordinate (parsed_whole x)) (λ across.
    and_then (parsed_coordinate (parsed_whole y)) (λ down. Ok (record { x = across; y = down })))
parsed_point words = Err kind.BadWord

-- The drawing of an empty text, without blocks and with the longest step 25.
abbrev pub default_drawing : DrawingValue
default_drawing = empty_drawing [] 25

-- The draft after the header.
abbrev pub empty_draft : DrawingDraft
empty_draft =
    record { drawing = default_drawing; named = false; stepped = false; opened = 0; ends = [] }

-- A draft has no block yet.
abbrev pub is_before_blocks : DrawingDraft → Bool
is_before_blocks draft = length draft.drawing.threads == 0

-- The draft after a line with the keyword "name" and the given word, or the fault of that line.
abbrev pub with_name_line : DrawingDraft → Option (List ℕ) → Result DrawingDraft DrawKind
with_name_line draft None = Err kind.BadWord
with_name_line draft (Some word) =
    if is_drawing_label word && (not draft.named && is_before_blocks draft)
    then Ok (record draft { named = true; drawing = record draft.drawing { label = word } })
    else Err kind.BadWord

-- The draft after a line with the keyword "step" and the given word, or the fault of that line.
abbrev pub with_step_line : DrawingDraft → Option (List ℕ) → Result DrawingDraft DrawKind
with_step_line draft None = Err kind.BadWord
with_step_line draft (Some word) =
    if draft.stepped || not (is_before_blocks draft) then Err kind.BadWord
    else and_then (parsed_count 1 MAX_STEP (parsed_whole word)) (λ step.
    Ok (record draft { stepped = true; drawing = record draft.drawing { step = step } }))

-- The draft after the text line of the given number, with the keyword "color" and the given word,
-- or the fault of that line.
abbrev pub with_color_line : ℕ → DrawingDraft → Option (List ℕ) → Result DrawingDraft DrawKind
with_color_line number draft None = Err kind.BadWord
with_color_line number draft (Some word) =
    and_then (parsed_count 0 255 (parsed_whole word)) (λ thread.
    and_then (block_added draft.drawing thread) (λ drawing.
    Ok (record draft { opened = number; drawing = drawing })))

-- The draft after a line with the keyword "line" and the given words, or the fault of that line.
abbrev pub with_points_line : DrawingDraft → List (List ℕ) → Result DrawingDraft DrawKind
with_points_line draft words =
    if is_before_blocks draft then Err kind.NoBlock
    else and_then (parsed_points words) (λ points.
    and_then (line_added draft.drawing points) (λ drawing. Ok (record draft { drawing = drawing })))

-- The draft after the text line of the given number, with the keyword "start" or "end" and the
-- given words, or the fault of that line. A start or an end belongs to the last block.
abbrev pub with_walk_end_line : ℕ → Bool → DrawingDraft → List (List ℕ)
    → Result DrawingDraft DrawKind
with_walk_end_line number is_start draft words =
    if is_before_blocks draft then Err kind.NoBlock
    else and_then (parsed_point words) (λ at. Ok (record draft {
      ends = draft.ends ++ record {
        number = number;
        is_start = is_start;
        spot = record { block = length draft.drawing.threads - 1; at = at };
      } ∷ [];
    }))

-- Texts of the version may name starts and ends.
abbrev pub allows_ends : Version → Bool
allows_ends version.Three = true
allows_ends earlier = false

-- The draft after the text line of the given number with the given words, or the fault of that
-- line.
abbrev pub draft_after_words : Version → ℕ → DrawingDraft → List (List ℕ)
    → Result DrawingDraft DrawKind
draft_after_words version number draft [] = Ok draft
draft_after_words version number draft (word ∷ rest) =
    if begins_comment word then Ok draft
    else if bytes_eq word (codes "name") then with_name_line draft (single_word rest)
    else if bytes_eq word (codes "step") then with_step_line draft (single_word rest)
    else if bytes_eq word (codes "color") then with_color_line number draft (single_word rest)
    else if bytes_eq word (codes "line") then with_points_line draft rest
    else if not (allows_ends version) then Err kind.BadWord
    else if bytes_eq word (codes "start") then with_walk_end_line number true draft rest
    else if bytes_eq word (codes "end") then with_walk_end_line number false draft rest
    else Err kind.BadWord
