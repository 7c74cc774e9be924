-- Pieces by labels, one edge of a piece and the degrees that it counts: what each requires.
use Rattle.std.proofs.Common.{◌≡◌, ℕ, ◌+◌, ◌<◌, ◌≤◌, List, [], ◌∷◌, Contains, length, set, get_or, refl, arith, subst}
use Rattle.line_graph.proofs.Names.{AddsEdge, ArePieceLabels, AreConnected, DrawingValue, Edge, IsPiece, LinesTouch, Point, edge_between, with_points}
use Rattle.line_graph.specs.PieceLabels.{CountsEnds}
use Rattle.line_graph.proofs.WalkFacts.{at, stroke}

-- a piece has a line, lines that are drawn and rise, are connected, and has each line that touches one of them
pub known_empty : (d : DrawingValue) → IsPiece d [] → ⊥
known_empty d is = none is.some
  where
    none : 1 ≤ 0 → ⊥
    none less = omega (arith, less)

pub known_falling : (d : DrawingValue) → IsPiece d (7 ∷ 4 ∷ []) → ⊥
known_falling d is = falls (is.rising 0 (omega arith))
  where
    falls : 7 < 4 → ⊥
    falls less = omega (arith, less)

pub known_piece : (d : DrawingValue) → IsPiece d (4 ∷ 7 ∷ []) → (7 < length d.lines) × AreConnected d 4 7
    × (LinesTouch d 7 9 → Contains {X = ℕ} (4 ∷ 7 ∷ []) 9)
known_piece d is = (
  is.there 1 0 (omega arith),
  is.joined 1 0 (omega arith),
  λ touch. is.whole 7 9 (1, omega arith, refl) touch,
)

-- labels of pieces: one a line, none greater than its line, on connected lines, and equal where lines touch
pub known_labels : (d : DrawingValue) (labels : List ℕ) → ArePieceLabels d labels → length d.lines ≡ 9
    → (length labels ≡ 9) × (get_or labels 8 0 ≤ 8) × AreConnected d (get_or labels 8 0) 8
    × (LinesTouch d 3 8 → get_or labels 3 0 ≡ get_or labels 8 0)
known_labels d labels are nine = (
  omega (arith, are.sized, nine),
  are.low 8 (omega (arith, are.sized, nine)),
  are.reached 8 (omega (arith, are.sized, nine)),
  λ touch. are.agree 3 8 touch,
)

-- the stroke's first end becomes a junction, its last end is one, whatever junctions follow
pub known_edge : (new : List Point) (edge : Edge) → AddsEdge stroke 0 (at 40 0 ∷ []) new edge
    → (new ≡ at 40 0 ∷ at 0 0 ∷ []) × (length new ≤ 3) × (edge ≡ record { a = 1; b = 0; cost = 4 })
known_edge new edge adds = (
  adds.seen,
  adds.few,
  subst (λ (points : List Point). edge ≡ edge_between stroke points 0) adds.seen (adds.is []),
)

pub known_edge_later : (new : List Point) (edge : Edge) → AddsEdge stroke 0 [] new edge → edge ≡ record { a = 0; b = 1; cost = 4 }
known_edge_later new edge adds = subst (λ (points : List Point). edge ≡ edge_between stroke (with_points points (at 7 7 ∷ [])) 0)
    adds.seen (adds.is (at 7 7 ∷ []))

-- an edge counts at both ends, and a line from a junction to itself twice there
counted : (edge : Edge) (old new : List ℕ) → CountsEnds edge old new
    → new ≡ set (set old edge.a (get_or old edge.a 0 + 1)) edge.b (get_or (set old edge.a (get_or old edge.a 0 + 1)) edge.b 0 + 1)
counted edge old new counts =
    subst (λ (between : List ℕ). new ≡ set between edge.b (get_or between edge.b 0 + 1)) counts.first counts.last

pub known_counts : (new : List ℕ) → CountsEnds (record { a = 0; b = 2; cost = 5 }) (1 ∷ 4 ∷ 7 ∷ []) new
    → (between : List ℕ) × (between ≡ 2 ∷ 4 ∷ 7 ∷ []) × (new ≡ 2 ∷ 4 ∷ 8 ∷ [])
known_counts new counts = (counts.between, counts.first, counted _ _ new counts)

pub known_loop_counts : (new : List ℕ) → CountsEnds (record { a = 1; b = 1; cost = 5 }) (1 ∷ 4 ∷ 7 ∷ []) new → new ≡ 1 ∷ 6 ∷ 7 ∷ []
known_loop_counts new counts = counted _ _ new counts
