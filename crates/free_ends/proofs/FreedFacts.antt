-- Lines joined with starts and ends, and what a freed drawing is.
use Rattle.std.proofs.Common.{◌≡◌, ℕ, pos, true, false, List, [], ◌∷◌, Ok, Err, refl}
use Rattle.design_model.specs.declared.point.Point.{Point}
use Rattle.free_ends.specs.FreedDrawings.{HasFoundEnds, IsFreed, drawn_and_joined, joined_with, lines_joined}
use Rattle.free_ends.specs.PieceEnds.{AreFound, IsFound, with_best_ends}
use Rattle.free_ends.specs.declared.freed_drawing.FreedDrawing.{FreedDrawing}
use Rattle.free_ends.specs.declared.piece_ends.PieceEnds.{PieceEnds}
use Rattle.line_graph.specs.declared.draw_kind.DrawKind.TheVariants as kind
use Rattle.line_graph.specs.Drawings.{DrawingValue}
use Rattle.line_graph.specs.PiecesOfDrawings.{ArePiecesOf, graph_of}
use Rattle.line_graph.specs.declared.piece.Piece.{Piece}
use Rattle.line_sections.specs.Lines.{LineValue}
use Rattle.line_sections.specs.declared.spot.Spot.{Spot}

abbrev at : ℕ → Point
at x = record { x = pos x; y = pos 0 }

abbrev line : ℕ → ℕ → LineValue
line from to = record { block = 0; points = at from ∷ at to ∷ [] }

abbrev spot : ℕ → Spot
spot x = record { block = 0; at = at x }

abbrev drawing : List Spot → List Spot → List LineValue → DrawingValue
drawing starts ends lines =
    record { label = []; step = 10; threads = 5 ∷ []; lines = lines; starts = starts; ends = ends }

-- a line over three points and one that ends at the middle of them
abbrev through : LineValue
through = record { block = 0; points = at 0 ∷ at 10 ∷ at 20 ∷ [] }

abbrev side : LineValue
side = record { block = 0; points = record { x = pos 10; y = pos 7 } ∷ at 10 ∷ [] }

-- as drawn they are two lines without starts and ends, and joined three with a start and an end
pub known_lines : lines_joined (drawing (spot 20 ∷ []) [] (through ∷ side ∷ [])) (spot 0 ∷ []) (spot 10 ∷ [])
    ≡ Ok (record {
      drawn = drawing [] [] (through ∷ side ∷ []);
      joined = drawing (spot 0 ∷ []) (spot 10 ∷ []) (line 0 10 ∷ line 10 20 ∷ side ∷ []);
    })
known_lines = refl

-- a start inside a line is refused, and so is a line of one point
pub known_refused : (lines_joined (drawing [] [] (line 0 9 ∷ [])) (spot 5 ∷ []) [] ≡ Err kind.NoJunction)
    × (lines_joined (drawing [] [] (record { block = 0; points = at 0 ∷ [] } ∷ [])) [] [] ≡ Err kind.FewPoints)
known_refused = (refl, refl)

-- the lines as drawn stand first
pub known_both : (drawn joined : DrawingValue) → (drawn_and_joined drawn (Ok joined) ≡ Ok (record { drawn = drawn; joined = joined }))
    × (drawn_and_joined drawn (Err kind.NoBlock) ≡ Err kind.NoBlock)
known_both drawn joined = (refl, refl)

-- what is found is that of each piece, in order
pub known_found : (p q : Piece) (f g : PieceEnds) → AreFound (p ∷ q ∷ []) (f ∷ g ∷ []) → IsFound (graph_of p) f × IsFound (graph_of q) g
known_found p q f g are = (are.0, are.1.0)

-- a freed drawing has the pieces of the one before, what is found of each, and starts and ends that are found beside its own
pub known_freed : (drawn before : DrawingValue) (freed : FreedDrawing) → IsFreed drawn before freed
    → ArePiecesOf before freed.pieces × AreFound freed.pieces freed.found × HasFoundEnds freed.joined freed.pieces freed.found
    × (joined_with drawn (with_best_ends true before.starts freed.pieces freed.found)
    (with_best_ends false before.ends freed.pieces freed.found) ≡ Ok freed.joined)
known_freed drawn before freed is = (is.pieces, is.found, is.ends, is.joined)
