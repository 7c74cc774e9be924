-- Starts and ends at given points. A line that lists such a point inside is cut there.
use Rattle.std.specs.Prelude.{ℕ, ◌+◌, ◌==◌, ◌&&◌, Bool, true, false, nat_lt, List, [], ◌∷◌, Option, Some, None, Result, Ok, Err, length, take, drop, filter, if◌then◌else◌}
use Rattle.std.specs.List.{flat_map, insert, list_all, list_any, position_or_len}
use Rattle.design_model.specs.declared.point.Point.{Point}
use Rattle.design_model.specs.Points.{is_same_point}
use Rattle.drawing_edits.specs.declared.edit_fault.EditFault.{EditFault}
use Rattle.drawing_edits.specs.declared.edit_fault.EditFault.TheVariants as fault
use Rattle.drawing_edits.specs.EditFaults.{edit_answer}
use Rattle.drawing_edits.specs.RedrawnDrawings.{redrawn}
use Rattle.line_graph.specs.declared.draw_kind.DrawKind.TheVariants as kind
use Rattle.line_graph.specs.Drawings.{DrawingValue}
use Rattle.line_graph.specs.GrowingDrawings.{and_then}
use Rattle.line_sections.specs.declared.spot.Spot.{Spot}
use Rattle.line_sections.specs.Lines.{LineValue}

-- The lines that list a point.
abbrev pub lines_listing : Point → List LineValue → List LineValue
lines_listing p lines = filter (λ line. list_any (is_same_point p) line.points) lines

-- The block of the first line, if there is one.
abbrev pub first_block : List LineValue → Option ℕ
first_block [] = None
first_block (line ∷ rest) = Some line.block

-- The block if all lines are in it, or the fault that there is no block, or that two have lines.
abbrev pub block_if_all : List LineValue → Option ℕ → Result ℕ EditFault
block_if_all lines None = Err (fault.Draw kind.NoJunction)
block_if_all lines (Some block) =
    if list_all (λ line. line.block == block) lines then Ok block else Err fault.TwoBlocks

-- The block of all given lines, or the fault that there is none, or that two have some.
abbrev pub only_block : List LineValue → Result ℕ EditFault
only_block lines = block_if_all lines (first_block lines)

-- The line through the points up to an index, and the line through those from that index on.
abbrev pub cut_in_two : ℕ → LineValue → List LineValue
cut_in_two index line = record { block = line.block; points = take (index + 1) line.points }
    ∷ record { block = line.block; points = drop index line.points } ∷ []

-- An index is inside a list: neither the first nor the last.
abbrev pub is_inner_index : ℕ → List Point → Bool
is_inner_index index points = nat_lt 0 index && nat_lt (index + 1) (length points)

-- A line of the spot's block, cut in two at the first place where it lists the spot, if that is
-- inside. Any other place is cut where lines are joined, as the block then lists the spot twice.
abbrev pub line_cut_at : Spot → LineValue → List LineValue
line_cut_at spot line =
    let index = position_or_len (is_same_point spot.at) line.points in
    if line.block == spot.block && is_inner_index index line.points
    then cut_in_two index line else line ∷ []

-- Spots with one more, which comes after those of its block and of earlier blocks.
abbrev pub with_spot : Spot → List Spot → List Spot
with_spot spot spots =
    insert spots (position_or_len (λ one. nat_lt spot.block one.block) spots) spot

-- The lines cut at the spot, which is one more start where the flag is true, else one more end.
abbrev pub with_end_at : Bool → Spot → DrawingValue → DrawingValue
with_end_at true spot d = record d {
  lines = flat_map (line_cut_at spot) d.lines;
  starts = with_spot spot d.starts;
}
with_end_at false spot d = record d {
  lines = flat_map (line_cut_at spot) d.lines;
  ends = with_spot spot d.ends;
}

-- The drawing with a start at a point where the flag is true, else with an end there, or why not:
-- no line lists the point, two blocks do, the piece has a start or end already, or a limit.
abbrev pub end_placed : Bool → Point → DrawingValue → Result DrawingValue EditFault
end_placed is_start p d = and_then (only_block (lines_listing p d.lines)) (λ block.
    edit_answer (redrawn (with_end_at is_start (record { block = block; at = p }) d)))
