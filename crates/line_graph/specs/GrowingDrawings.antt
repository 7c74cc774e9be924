-- Drawings that grow by blocks and lines within the limits of a drawing, and the results of the
-- calls that make them grow. Coordinates are whole tenths of a millimetre. Costs count steps.
use Rattle.std.specs.Prelude.{◌≡◌, ℕ, ◌+◌, ◌-◌, ◌==◌, Bool, true, false, not, ◌&&◌, ◌||◌, nat_le, nat_lt, List, [], ◌∷◌, ◌++◌, Result, Ok, Err, length, sum_by, if◌then◌else◌}
use Rattle.std.specs.Char.{is_ascii_graphic}
use Rattle.std.specs.List.{list_all, list_any}
use Rattle.design_model.specs.declared.design.TheConstants.{MAX_LABEL}
use Rattle.design_model.specs.declared.point.Point.{Point}
use Rattle.design_model.specs.declared.point.TheConstants.{NEEDLE_LIMIT}
use Rattle.design_model.specs.Points.{is_same_point, is_point_within}
use Rattle.design_model.specs.OutOfMemory.{IsSpecified}
use Rattle.line_sections.specs.Lines.{LineValue}
use Rattle.line_graph.specs.declared.draw_kind.DrawKind.{DrawKind}
use Rattle.line_graph.specs.declared.draw_kind.DrawKind.TheVariants as kind
use Rattle.line_graph.specs.declared.limits.TheConstants.{MAX_BLOCKS, MAX_COST, MAX_LINES, MAX_POINTS}
use Rattle.line_graph.specs.Drawings.{DrawingValue}
use Rattle.line_graph.specs.Needles.{steps_of_line}

-- The result of a second step on the value of a first one, or the fault of the first (as
-- `Result::and_then`).
abbrev pub and_then : {A B F : Type 0} → Result A F → (A → Result B F) → Result B F
and_then (Ok a) next = next a
and_then (Err why) next = Err why

-- The number of points of all given lines.
abbrev pub point_count : List LineValue → ℕ
point_count lines = sum_by (λ line. length line.points) lines

-- The number of steps of all given lines.
abbrev pub step_count : ℕ → List LineValue → ℕ
step_count step lines = sum_by (λ line. steps_of_line step line.points) lines

-- Some line of a drawing is in the given block.
abbrev pub is_used : DrawingValue → ℕ → Bool
is_used d block = list_any (λ line. line.block == block) d.lines

-- A drawing has blocks, and its last block has no line.
abbrev pub is_last_empty : DrawingValue → Bool
is_last_empty d = not (length d.threads == 0) && not (is_used d (length d.threads - 1))

-- A drawing without blocks, with the given label and longest step.
abbrev pub empty_drawing : List ℕ → ℕ → DrawingValue
empty_drawing label step =
    record { label = label; step = step; threads = []; lines = []; starts = []; ends = [] }

-- A word that may be the label of a drawing: printable ASCII without spaces, and not too long.
abbrev pub is_drawing_label : List ℕ → Bool
is_drawing_label word = nat_le (length word) MAX_LABEL && list_all is_ascii_graphic word

-- The drawing with one more block at the end.
abbrev pub with_new_block : DrawingValue → ℕ → DrawingValue
with_new_block d thread = record d { threads = d.threads ++ thread ∷ [] }

-- The drawing with one more block at the end, or the fault of that block.
abbrev pub block_added : DrawingValue → ℕ → Result DrawingValue DrawKind
block_added d thread =
    if is_last_empty d then Err kind.EmptyBlock
    else (if length d.threads == MAX_BLOCKS then Err kind.TooManyBlocks
    else Ok (with_new_block d thread))

-- Some point of a list equals the point before it, where p is before the first.
abbrev pub repeats_after : Point → List Point → Bool
repeats_after p [] = false
repeats_after p (q ∷ rest) = is_same_point p q || repeats_after q rest

-- Some point of a list equals the point before it.
abbrev pub has_repeated_point : List Point → Bool
has_repeated_point [] = false
has_repeated_point (p ∷ rest) = repeats_after p rest

-- The number of steps of a drawing's lines and one more line, or the first fault of that line.
abbrev pub steps_with_line : DrawingValue → List Point → Result ℕ DrawKind
steps_with_line d points =
    if nat_lt (length points) 2 then Err kind.FewPoints
    else (if has_repeated_point points then Err kind.RepeatedPoint
    else (if length d.lines == MAX_LINES then Err kind.TooManyLines
    else (if nat_lt MAX_POINTS (point_count d.lines + length points) then Err kind.TooManyPoints
    else (if nat_lt MAX_COST (step_count d.step d.lines + steps_of_line d.step points) then Err
    kind.TooMuchCost
    else Ok (step_count d.step d.lines + steps_of_line d.step points)))))

-- The drawing with one more line in its last block.
abbrev pub with_new_line : DrawingValue → List Point → DrawingValue
with_new_line d points =
    record d { lines = d.lines ++ record { block = length d.threads - 1; points = points } ∷ [] }

-- The needle can reach all given points.
abbrev pub all_in_needle_range : List Point → Bool
all_in_needle_range points = list_all (is_point_within NEEDLE_LIMIT) points

-- The drawing with one more line in its last block, or the first fault of that line.
abbrev pub line_added : DrawingValue → List Point → Result DrawingValue DrawKind
line_added d points =
    if length d.threads == 0 then Err kind.NoBlock
    else (if not (all_in_needle_range points) then Err kind.OutOfRange
    else and_then (steps_with_line d points) (λ steps. Ok (with_new_line d points)))

-- The finished drawing, or its fault: `NoBlock` without a block, `EmptyBlock` where the last block
-- has no line.
abbrev pub finished_drawing : DrawingValue → Result DrawingValue DrawKind
finished_drawing d =
    if length d.threads == 0 then Err kind.NoBlock
    else (if is_last_empty d then Err kind.EmptyBlock else Ok d)

-- A fault is `Memory`: memory could not be allocated.
abbrev pub draw_is_out_of_memory : DrawKind → Bool
draw_is_out_of_memory kind.Memory = true
draw_is_out_of_memory other = false

-- A call changes a value as specified. On success the value is the specified new one. A failure is
-- the specified one or out of memory, and leaves the value unchanged.
abbrev pub ChangesAsSpecified : {A T : Type 0} → Result A DrawKind → A → Result T DrawKind → A
    → Type 0
ChangesAsSpecified said old (Ok _) new = said ≡ Ok new
ChangesAsSpecified said old (Err why) new = IsSpecified draw_is_out_of_memory said (Err why)
    × (new ≡ old)
