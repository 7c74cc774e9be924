-- A drawing whose pieces are sewn near each other: each block has its pieces in an order with
-- little travel, and a piece without a start and an end begins where it is nearest to the needle.
-- The drawing stays as it is if that isn't less travel. Travel is in thousandths of a millimetre.
use Rattle.std.specs.Prelude.{◌≡◌, ◌≤◌, ◌==◌, ℕ, Bool, true, false, List, [], ◌∷◌, None, map, nat_le, Result, Ok, Err, nat_lt, length, ◌&&◌}
use Rattle.line_graph.specs.declared.draw_kind.DrawKind.{DrawKind}
use Rattle.line_graph.specs.declared.piece.Piece.{Piece}
use Rattle.line_graph.specs.Drawings.{DrawingValue}
use Rattle.line_graph.specs.GrowingDrawings.{and_then}
use Rattle.line_graph.specs.JoinedDrawings.{joined_drawing}
use Rattle.line_graph.specs.PiecesOfDrawings.{ArePiecesOf}
use Rattle.line_sections.specs.declared.spot.Spot.{Spot}
use Rattle.line_sections.specs.Lines.{LineValue}
use Rattle.drawing_edits.specs.RedrawnDrawings.{drawn_lines, with_starts_and_ends}
use Rattle.piece_stitches.specs.PieceStitches.{stitches_of_pieces, total_travel}
use Rattle.near_pieces.specs.declared.near_drawing.NearDrawing.{NearDrawing}
use Rattle.near_pieces.specs.NearLines.{AreNearLines}

-- The drawing with the given lines and starts in place of its own, or the first fault.
abbrev pub drawn_with : DrawingValue → List LineValue → List Spot → Result DrawingValue DrawKind
drawn_with d lines starts = and_then (drawn_lines (record d { lines = lines })) (λ drawn.
    and_then (joined_drawing drawn) (λ joined. with_starts_and_ends joined starts d.ends))

-- No number is less than the one before it, the first than the given one.
abbrev pub rises_from : ℕ → List ℕ → Bool
rises_from least [] = true
rises_from least (n ∷ rest) = nat_le least n && rises_from n rest

-- Spots are in the order of their blocks.
abbrev pub are_in_order : List Spot → Bool
are_in_order spots = rises_from 0 (map (λ spot. spot.block) spots)

-- The travel between the pieces of a drawing, as `look` reports it.
abbrev pub travel_of_pieces : DrawingValue → List Piece → ℕ
travel_of_pieces d pieces = total_travel (stitches_of_pieces d pieces)

-- A drawing and the travel of its pieces.
pub record HasTravel (d : DrawingValue) (travel : ℕ) : Type 0 where
  pub pieces : List Piece
  pub pieces_are : ArePiecesOf d pieces
  pub travel_is : travel ≡ travel_of_pieces d pieces

-- The lesser travel is taken, the first of equals.
abbrev pub IsLesser : (d new : DrawingValue) → (before after : ℕ) → Bool → NearDrawing → Type 0
IsLesser d new before after true found = (found.drawing ≡ new) × (found.after ≡ after)
IsLesser d new before after false found = (found.drawing ≡ d) × (found.after ≡ before)

-- Lines are drawn whole in a drawing: they are in the order of their blocks, and none is cut.
abbrev pub are_drawn_whole : List LineValue → DrawingValue → Bool
are_drawn_whole lines new =
    rises_from 0 (map (λ line. line.block) lines) && length new.lines == length lines

-- What is found where the near lines are drawn whole, with their starts, which a text lists in the
-- order of their blocks, or where they can't be.
abbrev pub IsFoundFrom : DrawingValue → List LineValue → Result DrawingValue DrawKind → NearDrawing
    → Type 0
IsFoundFrom d lines (Ok new) found = (after : ℕ) × HasTravel new after
    × IsLesser d new found.before after (are_drawn_whole lines new
    && (are_in_order new.starts && nat_lt after found.before)) found
IsFoundFrom d lines (Err why) found = (found.drawing ≡ d) × (found.after ≡ found.before)

-- The near drawing of a drawing: its pieces are those of the drawing in orders with little travel,
-- and its travel is no more than before.
pub record IsNear (d : DrawingValue) (found : NearDrawing) : Type 0 where
  pub pieces : List Piece
  pub pieces_are : ArePiecesOf d pieces
  pub counted : found.pieces ≡ length pieces
  pub before_is : found.before ≡ travel_of_pieces d pieces
  pub after_is : HasTravel found.drawing found.after
  pub no_more : found.after ≤ found.before
  pub lines : List LineValue
  pub starts : List Spot
  pub near : AreNearLines d.lines None pieces lines starts
  pub drawn : IsFoundFrom d lines (drawn_with d lines starts) found
