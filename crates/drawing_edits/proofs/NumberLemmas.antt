-- Pieces by their numbers.
use Rattle.std.proofs.Common.{Contains, ◌≡◌, ℕ, ◌-◌, ◌<◌, ◌++◌, zero, suc, All, get_or, length, arith, List, [], ◌∷◌, Some, option_map, slice_get, Result, Ok, ap, sym, ◌∙◌}
use Rattle.drawing_edits.proofs.Names.{All-contains, slice_get-map, concat, EditFault, drawn_from, found_piece, ordered_lines, piece_put_before, pieces_in_order, DrawingValue, and_then, All-contains_itself, All-weaker, Contains-append_left, Contains-append_right, edit_is_out_of_memory, IsPieceOf, numbered_piece}
use Rattle.design_model.specs.OutOfMemory.{IsSpecified}
use Rattle.line_graph.specs.declared.piece.Piece.{Piece}
use Rattle.line_graph.specs.PieceGraphs.{PieceValue}
use Rattle.line_graph.specs.PiecesOfDrawings.{ArePiecesOf, lines_of_pieces}

-- The piece at an index, as a list of lines.
pub numbered_at : (pieces : List Piece) (all : List (List ℕ)) (number : ℕ) (piece : Piece) → lines_of_pieces pieces ≡ all
    → slice_get pieces (number - 1) ≡ Some piece → numbered_piece all number ≡ Ok piece.lines
numbered_at pieces all number piece is there =
    ap (λ (ps : List (List ℕ)). numbered_piece ps number) (sym is)
    ∙ ap (found_piece number) (slice_get-map (λ (p : Piece). p.lines) pieces (number - 1)
    ∙ ap (option_map (λ (p : Piece). p.lines)) there)

-- The answer for two pieces at their indexes is the answer for their numbers.
pub ordered_by_numbers : (d : DrawingValue) (pieces : List Piece) (p q : ℕ) (one other : Piece) (r : Result DrawingValue EditFault)
    → lines_of_pieces pieces ≡ pieces_in_order d → slice_get pieces (p - 1) ≡ Some one → slice_get pieces (q - 1) ≡ Some other
    → IsSpecified edit_is_out_of_memory (and_then (ordered_lines p q one.lines other.lines d) (drawn_from d)) r
    → IsSpecified edit_is_out_of_memory (piece_put_before p q d) r
ordered_by_numbers d pieces p q one other r all one_is other_is answer =
    rw (numbered_at pieces (pieces_in_order d) p one all one_is, numbered_at pieces (pieces_in_order d) q other all other_is) answer

-- What holds of all items of two lists holds of those of each.
all_left : (P : ℕ → Type 0) (xs ys : List ℕ) → All P (xs ++ ys) → All P xs
all_left P xs ys all = All-weaker (Contains xs) P (λ x has. All-contains P (xs ++ ys) x all (Contains-append_left xs ys x has)) xs
    (All-contains_itself xs)

all_right : (P : ℕ → Type 0) (xs ys : List ℕ) → All P (xs ++ ys) → All P ys
all_right P xs ys all = All-weaker (Contains ys) P (λ x has. All-contains P (xs ++ ys) x all (Contains-append_right xs ys x has)) ys
    (All-contains_itself ys)

-- What holds of the lines of all pieces holds of those of each.
each_there : (P : ℕ → Type 0) (pieces : List Piece) → All P (concat (lines_of_pieces pieces)) → (k : ℕ) (p : Piece)
    → k < length pieces → All P (get_or pieces k p).lines
each_there P [] all k p below = absurd (omega (arith, below))
each_there P (a ∷ pieces) all zero p below = all_left P a.lines (concat (lines_of_pieces pieces)) all
each_there P (a ∷ pieces) all (suc k) p below =
    each_there P pieces (all_right P a.lines (concat (lines_of_pieces pieces)) all) k p (omega (arith, below))

-- The computed pieces of a drawing have their lines in it, in one block.
pub each_piece : (d : DrawingValue) (pieces : List Piece) → ArePiecesOf d pieces → All (IsPieceOf d) pieces
each_piece d pieces are = λ k. λ p. λ below. record {
  block = ap (λ (v : PieceValue). v.block) (are.each k p below);
  there = each_there (λ line. line < length d.lines) pieces are.are.there k p below;
}
