-- Lemmas on lines and starts that are put together.
use Rattle.std.proofs.Common.{Bool, true, false, nat_lt, ◌==◌, ◌≤◌, length, map, arith, ◌≡◌, ◌∙◌, ℕ, List, [], ◌∷◌, ◌++◌, None, slice_get, append_assoc, ap, sym, subst, refl}
use Rattle.line_graph.specs.Drawings.{KeepsDrawingLimits}
use Rattle.line_graph.specs.PiecesOfDrawings.{ArePiecesOf, lines_of_pieces}
use Rattle.line_graph.specs.SewnWalks.{PiecesKeepLimits}
use Rattle.near_pieces.proofs.RunLemmas.{rising_in_order}
use Rattle.near_pieces.proofs.Names.{append-nil, length-map, nat_tests, AreInBlockOrder, DrawingValue, HasOrderedEnds, are_in_order, Piece, LineValue, Spot, NearLines, AreNearLines, AreNearOrders, IsRunPut, if_put, if_there, lines_in, lines_numbered, lines_in_run, lines_of, needle_after, needle_after_run, run_put, block_runs, starts_of, starts_in, starts_in_run}

-- One more piece of a run, and then the others.
pub put_next : (lines : List LineValue) (run : List Piece) (i : ℕ) (rest : List ℕ) (near : NearLines)
    → run_put lines run rest (if_put lines (slice_get run i) near) ≡ run_put lines run (i ∷ rest) near
put_next lines run i rest near =
    let lines_same : (near.lines ++ lines_of lines (slice_get run i)) ++ lines_in_run lines run rest
    ≡ near.lines ++ (lines_of lines (slice_get run i) ++ lines_in_run lines run rest) =
    append_assoc near.lines (lines_of lines (slice_get run i)) (lines_in_run lines run rest) in
    let starts_same : (near.starts ++ starts_of near.from (slice_get run i)) ++ starts_in_run (needle_after near.from
    (slice_get run i)) run rest
    ≡ near.starts ++ (starts_of near.from (slice_get run i) ++ starts_in_run (needle_after near.from (slice_get run i)) run rest) =
    append_assoc near.starts (starts_of near.from (slice_get run i)) (starts_in_run (needle_after near.from (slice_get run i)) run rest) in
    cc

-- One more line, and then the others.
pub numbered_next : (all : List LineValue) (lines : List LineValue) (i : ℕ) (rest : List ℕ)
    → (all ++ if_there (slice_get lines i)) ++ lines_numbered lines rest ≡ all ++ lines_numbered lines (i ∷ rest)
numbered_next all lines i rest = append_assoc all (if_there (slice_get lines i)) (lines_numbered lines rest)

-- The lines of the runs so far, whatever near lines those of the others are.
abbrev pub GoesOn : (lines : List LineValue) (pieces rest : List Piece) → NearLines → Type 0
GoesOn lines pieces rest near = (new : List LineValue) (starts : List Spot) → AreNearLines lines near.from rest new starts
    → AreNearLines lines None pieces (near.lines ++ new) (near.starts ++ starts)

-- The lines of no run.
pub goes_on_first : (lines : List LineValue) (pieces : List Piece) (near : NearLines) → near.lines ≡ [] → near.starts ≡ []
    → near.from ≡ None → GoesOn lines pieces pieces near
goes_on_first lines pieces near no_lines no_starts nowhere new starts are =
    subst (λ from. AreNearLines lines from pieces (near.lines ++ new) (near.starts ++ starts)) nowhere (record {
      orders = are.orders;
      near = are.near;
      lines_are = ap (λ l. l ++ new) no_lines ∙ are.lines_are;
      starts_are = ap (λ l. l ++ starts) no_starts ∙ are.starts_are;
    })

-- The lines of one more run.
pub goes_on_next : (lines : List LineValue) (pieces rest run after : List Piece) (near new : NearLines) → GoesOn lines pieces rest near
    → block_runs rest ≡ run ∷ block_runs after → IsRunPut lines run near new → GoesOn lines pieces after new
goes_on_next lines pieces rest run after near new on split put more starts are =
    subst (λ l. AreNearLines lines None pieces l (new.starts ++ starts)) (sym lines_same)
    (subst (λ s. AreNearLines lines None pieces (near.lines ++ (lines_in_run lines run put.order ++ more)) s) (sym starts_same)
    (on (lines_in_run lines run put.order ++ more) (starts_in_run near.from run put.order ++ starts) inner)) where
      from_same : new.from ≡ needle_after_run near.from run put.order
      from_same = ap (λ (n : NearLines). n.from) put.put

      lines_same : new.lines ++ more ≡ near.lines ++ (lines_in_run lines run put.order ++ more)
      lines_same = ap (λ (n : NearLines). n.lines ++ more) put.put ∙ append_assoc near.lines (lines_in_run lines run put.order) more

      starts_same : new.starts ++ starts ≡ near.starts ++ (starts_in_run near.from run put.order ++ starts)
      starts_same = ap (λ (n : NearLines). n.starts ++ starts) put.put
          ∙ append_assoc near.starts (starts_in_run near.from run put.order) starts

      inner : AreNearLines lines near.from rest (lines_in_run lines run put.order ++ more) (starts_in_run near.from run put.order ++ starts)
      inner = record {
        orders = put.order ∷ are.orders;
        near = subst (λ rs. AreNearOrders near.from rs (put.order ∷ are.orders)) (sym split)
            (put.ordered, subst (λ from. AreNearOrders from (block_runs after) are.orders) from_same are.near);
        lines_are = ap (λ m. lines_in_run lines run put.order ++ m) are.lines_are
            ∙ ap (λ rs. lines_in lines rs (put.order ∷ are.orders)) (sym split);
        starts_are = ap (λ m. starts_in_run near.from run put.order ++ m)
            (are.starts_are ∙ ap (λ from. starts_in from (block_runs after) are.orders) from_same)
            ∙ ap (λ rs. starts_in near.from rs (put.order ∷ are.orders)) (sym split);
      }

-- The lines of all runs.
pub goes_on_last : (lines : List LineValue) (pieces : List Piece) (near : NearLines) → GoesOn lines pieces [] near
    → AreNearLines lines None pieces near.lines near.starts
goes_on_last lines pieces near on =
    subst (λ l. AreNearLines lines None pieces l near.starts) (append-nil near.lines)
    (subst (λ s. AreNearLines lines None pieces (near.lines ++ []) s) (append-nil near.starts)
    (on [] [] (record { orders = []; near = tt; lines_are = refl; starts_are = refl })))

-- The lines of all runs, where a test finds no piece left.
pub goes_on_end : (lines : List LineValue) (pieces rest : List Piece) (near : NearLines) (test : Bool) → test ≡ (length rest == 0)
    → test ≡ true → GoesOn lines pieces rest near → AreNearLines lines None pieces near.lines near.starts
goes_on_end lines pieces [] near test is passes on = goes_on_last lines pieces near on
goes_on_end lines pieces (p ∷ rest) near test is passes on = absurd (some_piece test is passes) where
  some_piece : (b : Bool) → b ≡ (length (p ∷ rest) == 0) → b ≡ true → ⊥
  some_piece b is passes = let none : length (p ∷ rest) ≡ 0 = grind (arith, nat_tests) in omega (arith, none)

-- No piece adds nothing.
pub nothing_put : (lines : List LineValue) (near : NearLines) → near ≡ if_put lines None near
nothing_put lines near = ap (λ l. put l near.starts) (sym (append-nil near.lines))
    ∙ ap (λ s. put (near.lines ++ []) s) (sym (append-nil near.starts)) where
      put : List LineValue → List Spot → NearLines
      put l s = record { lines = l; starts = s; from = near.from }

-- Few pieces are in few runs.
pub few_pieces : (d : DrawingValue) (pieces : List Piece) → KeepsDrawingLimits d → PiecesKeepLimits → ArePiecesOf d pieces
    → length pieces ≤ 1024
few_pieces d pieces keeps theorem are =
    omega (arith, (theorem d (lines_of_pieces pieces) keeps are.are).count, length-map pieces (λ (p : Piece). p.lines))

-- A drawing with ordered starts, and the ends of one with ordered ends.
pub ordered_ends : (d new : DrawingValue) → HasOrderedEnds d → new.ends ≡ d.ends → are_in_order new.starts ≡ true → HasOrderedEnds new
ordered_ends d new ordered ends starts = record {
  starts = rising_in_order 0 (map (λ (spot : Spot). spot.block) new.starts) starts;
  ends = subst AreInBlockOrder (sym ends) ordered.ends;
}

-- An index is past a list's end by a test.
pub past_end : (n i : ℕ) → false ≡ nat_lt i n → n ≤ i
past_end n i is = grind (arith, nat_tests)
