-- Every piece of a drawing is maximal, and so its graph is valid.
use Rattle.std.proofs.Common.{◌≡◌, ◌≢◌, ◌<◌, ◌≤◌, ℕ, zero, suc, List, [], ◌∷◌, length, get_or, All, Contains, arith, refl, subst}
use Rattle.line_graph.proofs.Names.{All-contains, concat, IsStrictlyIncreasing, SplitPointsLead, DrawingValue, IsPiece, ArePieces, AreConnected, LinesTouch, first_line, concat_has, PiecesAreValid}
use Rattle.line_graph.proofs.LabelLemmas.{joined_back, joined_on}
use Rattle.line_graph.proofs.UniquePieceLemmas.{alike, among}
use Rattle.line_graph.proofs.ValidPieceLemmas.{part_kept}
use Rattle.line_graph.proofs.LinkLemmas.{below_get}

-- a list that isn't empty has a line
some_line : (lines : List ℕ) → lines ≢ [] → 1 ≤ length lines
some_line [] filled = absurd (filled refl)
some_line (n ∷ lines) filled = omega arith

-- a line that touches one of a piece is in the piece
touched : (d : DrawingValue) (pieces : List (List ℕ)) → ArePieces d pieces → (lines : List ℕ) → Contains pieces lines → (i j : ℕ)
    → Contains lines i → LinesTouch d i j → Contains lines j
touched d pieces are lines in_pieces i j has touch =
    let Joins : List ℕ → Type 0 = λ piece. All (AreConnected d (first_line piece)) piece in
    let is = among pieces j (are.covered j (below_get d.lines j touch.other touch.other_is)) in
    let r : List ℕ = is.piece in
    let from : AreConnected d (first_line r) j =
    All-contains (AreConnected d (first_line r)) r j (All-contains Joins pieces r are.joined is.there) is.has in
    let near : AreConnected d (first_line lines) i =
    All-contains (AreConnected d (first_line lines)) lines i (All-contains Joins pieces lines are.joined in_pieces) has in
    let to : AreConnected d (first_line lines) j = joined_on d (first_line lines) i j near (j ∷ [], (touch, refl)) in
    let beside : AreConnected d (first_line r) (first_line lines) =
    joined_on d (first_line r) j (first_line lines) from (joined_back d (first_line lines) j to) in
    let same : r ≡ lines = alike (λ x y. AreConnected d (first_line x) (first_line y) → ⊥) pieces r lines are.apart
    (λ never. never beside) (λ never. never (joined_back d (first_line r) (first_line lines) beside)) is.there in_pieces in
    subst (λ (ls : List ℕ). Contains ls j) same is.has

-- all lines of a piece are lines of the drawing
lines_there : (d : DrawingValue) (pieces : List (List ℕ)) → ArePieces d pieces → (lines : List ℕ) → Contains pieces lines
    → All (λ line. line < length d.lines) lines
lines_there d pieces are lines in_pieces = λ k. λ x. λ below.
    All-contains (λ line. line < length d.lines) (concat pieces) (get_or lines k x) are.there
    (concat_has pieces lines (get_or lines k x) in_pieces (k, below, same lines k x below))
  where
    same : (ls : List ℕ) (k x : ℕ) → k < length ls → get_or ls k (get_or ls k x) ≡ get_or ls k x
    same [] k x below = absurd (omega (arith, below))
    same (n ∷ ls) zero x below = refl
    same (n ∷ ls) (suc k) x below = same ls k x (omega (arith, below))

is_piece : (d : DrawingValue) (pieces : List (List ℕ)) → ArePieces d pieces → (lines : List ℕ) → Contains pieces lines → IsPiece d lines
is_piece d pieces are lines in_pieces = record {
  some = some_line lines (All-contains (λ piece. piece ≢ []) pieces lines are.filled in_pieces);
  there = lines_there d pieces are lines in_pieces;
  rising = All-contains IsStrictlyIncreasing pieces lines are.rising in_pieces;
  joined = All-contains (λ piece. All (AreConnected d (first_line piece)) piece) pieces lines are.joined in_pieces;
  whole = touched d pieces are lines in_pieces;
}

pub pieces_are_valid : SplitPointsLead → PiecesAreValid
pieces_are_valid lead d pieces keeps are = λ k. λ x. λ below.
    part_kept lead d keeps (get_or pieces k x) (is_piece d pieces are (get_or pieces k x) (k, below, same pieces k x below))
  where
    same : (ps : List (List ℕ)) (k : ℕ) (x : List ℕ) → k < length ps → get_or ps k (get_or ps k x) ≡ get_or ps k x
    same [] k x below = absurd (omega (arith, below))
    same (p ∷ ps) zero x below = refl
    same (p ∷ ps) (suc k) x below = same ps k x (omega (arith, below))
