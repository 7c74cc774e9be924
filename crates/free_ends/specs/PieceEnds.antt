-- What is found of the ends of pieces, and the starts and ends that a drawing gets by it.
use Rattle.std.specs.Prelude.{◌<◌, ℕ, Bool, List, [], ◌∷◌, Option, Some, None, length, slice_get, if◌then◌else◌}
use Rattle.design_model.specs.declared.point.Point.{Point}
use Rattle.drawing_edits.specs.PlacedEnds.{with_spot}
use Rattle.free_ends.specs.declared.end_choice.WalkEnds.{WalkEnds}
use Rattle.free_ends.specs.declared.end_choice.TheConstants.{MAX_ODD}
use Rattle.free_ends.specs.declared.piece_ends.PieceEnds.{PieceEnds}
use Rattle.free_ends.specs.declared.piece_ends.PieceEnds.TheVariants as found
use Rattle.free_ends.specs.BestWalkEnds.{HasFreeEnds, IsBestChoice}
use Rattle.line_graph.specs.declared.piece.Piece.{Piece}
use Rattle.line_graph.specs.PieceGraphs.{PieceValue, odd_junctions}
use Rattle.line_graph.specs.PiecesOfDrawings.{graph_of}
use Rattle.line_sections.specs.declared.spot.Spot.{Spot}

-- What is found of the ends of a piece: that a start or an end is given, the best ends, or that
-- more junctions are odd than are searched.
abbrev pub IsFound : PieceValue → PieceEnds → Type 0
IsFound p found.Given = HasFreeEnds p → ⊥
IsFound p (found.Best best) = HasFreeEnds p × IsBestChoice p best
IsFound p found.TooMany = HasFreeEnds p × (MAX_ODD < length (odd_junctions p))

-- What is found of the ends of pieces, one after another.
abbrev pub AreFound : List Piece → List PieceEnds → Type 0
AreFound [] [] = Unit {0}
AreFound [] (f ∷ fs) = ⊥
AreFound (p ∷ ps) [] = ⊥
AreFound (p ∷ ps) (f ∷ fs) = IsFound (graph_of p) f × AreFound ps fs

-- The best ends that are found, if there are any.
abbrev pub ends_found : PieceEnds → Option WalkEnds
ends_found found.Given = None
ends_found (found.Best best) = best.ends
ends_found found.TooMany = None

-- The start of a walk where the flag is true, else its end.
abbrev pub one_end : Bool → WalkEnds → ℕ
one_end is_start ends = if is_start then ends.start else ends.end

-- Spots with one more, at a point of a block, if there is one.
abbrev pub with_point_spot : ℕ → List Spot → Option Point → List Spot
with_point_spot block spots None = spots
with_point_spot block spots (Some at) = with_spot (record { block = block; at = at }) spots

-- Starts with the best start of a piece where the flag is true, else ends with its best end.
abbrev pub with_best_end : Bool → List Spot → PieceValue → Option WalkEnds → List Spot
with_best_end is_start spots p None = spots
with_best_end is_start spots p (Some ends) =
    with_point_spot p.block spots (slice_get p.junctions (one_end is_start ends))

-- Starts with the best starts of pieces where the flag is true, else ends with their best ends.
abbrev pub with_best_ends : Bool → List Spot → List Piece → List PieceEnds → List Spot
with_best_ends is_start spots [] founds = spots
with_best_ends is_start spots (p ∷ ps) [] = spots
with_best_ends is_start spots (p ∷ ps) (f ∷ fs) =
    with_best_ends is_start (with_best_end is_start spots (graph_of p) (ends_found f)) ps fs
