-- The blocks of the pieces of a drawing.
use Rattle.std.proofs.Common.{◌≡◌, ℕ, zero, suc, ◌<◌, List, [], ◌∷◌, Option, Some, None, length, All, ap, refl, subst, arith}
use Rattle.std.specs.List.{slice_get}
use Rattle.line_graph.proofs.Names.{All-cons, All-head, All-nil, All-tail, LineValue, Piece, graph_of, DrawingValue, KeepsDrawingLimits, optional_line_block, block_of, PieceValue, piece_graph, first_line}

-- a block of a drawing is one of few
block_few : (d : DrawingValue) (line : ℕ) → KeepsDrawingLimits d → block_of d line < 255
block_few d line keeps = of_line (slice_get d.lines line) refl
  where
    of_line : (found : Option LineValue) → slice_get d.lines line ≡ found → block_of d line < 255
    of_line None is = let same : block_of d line ≡ 0 = ap optional_line_block is in omega (arith, same)
    of_line (Some l) is =
        let same : block_of d line ≡ l.block = ap optional_line_block is in
        let less : l.block < length d.threads = there d.lines line l is keeps.there in
        omega (arith, same, less, keeps.blocks_to)
      where
        there : (lines : List LineValue) (k : ℕ) (l : LineValue) → slice_get lines k ≡ Some l
            → All (λ (line : LineValue). line.block < length d.threads) lines → l.block < length d.threads
        there [] k l is all = cc
        there (first ∷ rest) zero l is all =
            let same : first ≡ l = some_same first l is in
            subst (λ (x : LineValue). x.block < length d.threads) same
            (All-head (λ (x : LineValue). x.block < length d.threads) first rest all)
          where
            some_same : (a b : LineValue) → Some a ≡ Some b → a ≡ b
            some_same a b is = cc
        there (first ∷ rest) (suc k) l is all =
            there rest k l is (All-tail (λ (x : LineValue). x.block < length d.threads) first rest all)

-- so is the block of each piece that is cut from it
pub blocks_few : (d : DrawingValue) (pieces : List Piece) → KeepsDrawingLimits d
    → All (λ (p : Piece). graph_of p ≡ piece_graph d p.lines) pieces → All (λ (p : Piece). p.block < 255) pieces
blocks_few d [] keeps cut = All-nil (λ (p : Piece). p.block < 255)
blocks_few d (p ∷ pieces) keeps cut =
    let is : graph_of p ≡ piece_graph d p.lines = All-head (λ (q : Piece). graph_of q ≡ piece_graph d q.lines) p pieces cut in
    let same : p.block ≡ block_of d (first_line p.lines) = ap (λ (g : PieceValue). g.block) is in
    let few : block_of d (first_line p.lines) < 255 = block_few d (first_line p.lines) keeps in
    let here : p.block < 255 = omega (arith, same, few) in
    All-cons (λ (q : Piece). q.block < 255) p pieces here
    (blocks_few d pieces keeps (All-tail (λ (q : Piece). graph_of q ≡ piece_graph d q.lines) p pieces cut))
