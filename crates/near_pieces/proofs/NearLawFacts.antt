-- What the laws of near lines exclude. Costs count steps.
use Rattle.std.proofs.Common.{◌≡◌, ◌≢◌, ◌≤◌, ◌<◌, ℕ, true, false, List, [], ◌∷◌, Some, None, pos, length, All, refl, ap, subst, sym, arith}
use Rattle.std.proofs.lemmas.Bool.{and_parts}
use Rattle.std.specs.List.{concat}
use Rattle.line_graph.proofs.CallerLemmas.{stays_lost}
use Rattle.line_graph.specs.Drawings.{KeepsDrawingLimits}
use Rattle.line_graph.specs.PieceGraphs.{PieceValue, piece_graph}
use Rattle.line_graph.specs.PiecesOfDrawings.{ArePiecesOf, lines_of_pieces}
use Rattle.line_graph.specs.PieceWalks.{IsLeastWalk, covers, edge_cost, is_fitting_walk, is_line_passed, is_walk_start_to_end, pass_sum, walk_cost}
use Rattle.line_graph.specs.ValidPieces.{IsValidPiece}
use Rattle.line_graph.specs.declared.edge.Edge.{Edge}
use Rattle.line_graph.specs.declared.pass.Pass.{Pass}
use Rattle.near_pieces.proofs.Names.{nat_tests, length-map, length_permutation, DrawingValue, LineValue, Piece, Spot, NearDrawing, AreNearLines, IsNear, lines_numbered}
use Rattle.near_pieces.specs.NearPieceLaws.{ClosedWalksBeginAnywhere, HasSameCosts, HasSameGraph, HasWalksOf, KeepsPieces, NearDrawingsKeepPieces, NearPiecesStay, SameGraphsHaveSameCosts, SameLinesHaveSameGraph}

-- There are as many pieces as before.
counted : (d : DrawingValue) (pieces : List (List ℕ)) (new : List LineValue) (is : KeepsPieces d pieces new)
    → length is.new_pieces ≡ length pieces
counted d pieces new is = omega (
  arith,
  length_permutation pieces is.order is.each,
  ap length is.same,
  length-map is.new_pieces (lines_numbered new),
  length-map is.order (lines_numbered d.lines),
)

-- A piece has lines, so none is lost with all lines.
pub refuted_lost : (d : DrawingValue) (piece : List ℕ) → KeepsPieces d (piece ∷ []) [] → ⊥
refuted_lost d piece is = some_line is.new_pieces (counted d (piece ∷ []) [] is) is.pieces_are.filled is.pieces_are.there where
  some_line : (pieces : List (List ℕ)) → length pieces ≡ 1 → All (λ p. p ≢ []) pieces → All (λ line. line < 0) (concat pieces) → ⊥
  some_line [] one filled there = omega (arith, one)
  some_line ([] ∷ rest) one filled there = filled 0 [] (omega arith) refl
  some_line ((line ∷ more) ∷ rest) one filled there = omega (arith, there 0 0 (omega arith))

-- Near lines of a piece are never none.
pub refuted_none : NearPiecesStay → (d : DrawingValue) (p : Piece) (starts : List Spot) → KeepsDrawingLimits d
    → ArePiecesOf d (p ∷ []) → AreNearLines d.lines None (p ∷ []) [] starts → ⊥
refuted_none law d p starts limits are near = refuted_lost d p.lines (law d (p ∷ []) [] starts limits are near)

-- A loop at one junction.
abbrev loop : (block cost degree : ℕ) → PieceValue
loop block cost degree = record {
  block = block;
  lines = 0 ∷ [];
  junctions = record { x = pos 3; y = pos 4 } ∷ [];
  edges = record { a = 0; b = 0; cost = cost } ∷ [];
  degrees = degree ∷ [];
  start = None;
  end = None;
}

-- Graphs of other blocks, costs, degrees or junctions are not the same.
pub refuted_block : HasSameGraph (loop 1 5 2) (loop 2 5 2) → ⊥
refuted_block is = omega (arith, is.block)

pub refuted_cost : HasSameGraph (loop 1 5 2) (loop 1 7 2) → ⊥
refuted_cost is = omega (arith, ap first_cost is.edges) where
  first_cost : List Edge → ℕ
  first_cost [] = 0
  first_cost (e ∷ rest) = e.cost

pub refuted_degree : HasSameGraph (loop 1 5 2) (loop 1 5 4) → ⊥
refuted_degree is = omega (arith, ap first is.degrees) where
  first : List ℕ → ℕ
  first [] = 0
  first (n ∷ rest) = n

pub refuted_junction : HasSameGraph (loop 1 5 2) (record (loop 1 5 2) { junctions = [] }) → ⊥
refuted_junction is = omega (arith, ap length is.junctions)

-- Pieces with the same lines have no graphs that differ.
pub refuted_graph : SameLinesHaveSameGraph → (d e : DrawingValue) (some others : List ℕ) → d.step ≡ e.step → some ≢ [] → others ≢ []
    → All (λ line. line < length d.lines) some → All (λ line. line < length e.lines) others
    → lines_numbered e.lines others ≡ lines_numbered d.lines some
    → (HasSameGraph (piece_graph d some) (piece_graph e others) → ⊥) → ⊥
refuted_graph law d e some others step one two there here same never = never (law d e some others step one two there here same)

-- The walk once along the loop, and that a walk along it costs as much at least.
abbrev once : List Pass
once = record { line = 0; back = false } ∷ []

pub known_once : is_fitting_walk (loop 1 5 2) once ≡ true
known_once = refl

at_least : (cost : ℕ) (walk : List Pass) → is_line_passed 0 walk ≡ true
    → cost ≤ pass_sum (0 ∷ []) (record { a = 0; b = 0; cost = cost } ∷ []) edge_cost walk
at_least cost [] passed = absurd cc
at_least cost (pass ∷ walk) passed = grind (arith, nat_tests, at_least cost walk)

-- No walk over a loop of other cost costs as much.
pub refuted_walks : HasWalksOf (loop 1 5 2) (loop 1 7 2) → ⊥
refuted_walks has =
    let other = has once refl in
    let both = and_parts (is_walk_start_to_end (loop 1 7 2) other.0) (covers (0 ∷ []) other.0) other.1 in
    omega (arith, other.2, at_least 7 other.0 (and_parts (is_line_passed 0 other.0) true both.1).0)

-- Where no edge is, no walk fits.
pub refuted_fit : HasWalksOf (loop 1 5 2) (record (loop 1 5 2) { edges = [] }) → ⊥
refuted_fit has = let other = has once refl in no_walk other.0 other.1 where
  no_walk : (walk : List Pass) → is_fitting_walk (record (loop 1 5 2) { edges = [] }) walk ≡ true → ⊥
  no_walk [] fits = cc
  no_walk (pass ∷ walk) fits = absurd (let never = rw (stays_lost (0 ∷ []) [] walk) at fits in let no : ⊥ = cc in no)

-- Least walks over pieces with walks of the same costs cost the same.
pub least_costs : (p q : PieceValue) (walk other : List Pass) → HasSameCosts p q → is_fitting_walk p walk ≡ true
    → is_fitting_walk q other ≡ true → IsLeastWalk p walk → IsLeastWalk q other → walk_cost p walk ≡ walk_cost q other
least_costs p q walk other same one two least least_too =
    let there = same.there walk one in
    let back = same.back other two in
    omega (arith, least back.0 back.1, least_too there.0 there.1, there.2, back.2)

-- No least walk costs more in a piece with the same graph, or once it begins at a junction.
pub refuted_more : SameGraphsHaveSameCosts → (p q : PieceValue) (walk other : List Pass) → IsValidPiece p → IsValidPiece q
    → HasSameGraph p q → q.start ≡ p.start → q.end ≡ p.end → is_fitting_walk p walk ≡ true → is_fitting_walk q other ≡ true
    → IsLeastWalk p walk → IsLeastWalk q other → walk_cost q other ≢ walk_cost p walk → ⊥
refuted_more law p q walk other valid valid_too same start end one two least least_too differ =
    differ (sym (least_costs p q walk other (law p q valid valid_too same start end) one two least least_too))

pub refuted_later : ClosedWalksBeginAnywhere → (p : PieceValue) (j : ℕ) (walk other : List Pass) → IsValidPiece p → p.start ≡ None
    → p.end ≡ None → j < length p.junctions → is_fitting_walk p walk ≡ true
    → is_fitting_walk (record p { start = Some j }) other ≡ true → IsLeastWalk p walk
    → IsLeastWalk (record p { start = Some j }) other → walk_cost p other ≢ walk_cost p walk → ⊥
refuted_later law p j walk other valid no_start no_end there one two least least_too differ =
    differ (sym (least_costs p (record p { start = Some j }) walk other (law p j valid no_start no_end there) one two least least_too))

-- A near drawing of one piece has a line.
pub refuted_emptied : NearDrawingsKeepPieces → (d : DrawingValue) (found : NearDrawing) (piece : List ℕ) → KeepsDrawingLimits d
    → (near : IsNear d found) → lines_of_pieces near.pieces ≡ piece ∷ [] → found.drawing.lines ≡ [] → ⊥
refuted_emptied law d found piece limits near one none =
    refuted_lost d piece (subst (λ ps. KeepsPieces d ps []) one
    (subst (KeepsPieces d (lines_of_pieces near.pieces)) none (law d found limits near)))
