-- Reports of pieces, one after another.
use Rattle.std.proofs.Common.{◌≡◌, ℕ, suc, ◌+◌, ◌<◌, ◌≤◌, List, [], ◌∷◌, ◌++◌, length, All, sym, ap, subst, ◌∙◌, arith}
use Rattle.std.proofs.lemmas.List.{append_assoc}
use Rattle.std.proofs.lemmas.List.Elements.{All-tail}
use Rattle.odd_cuts.specs.declared.certificate.PieceCert.{PieceCert}
use Rattle.line_graph.specs.declared.piece.Piece.{Piece}
use Rattle.line_graph.specs.PiecesOfDrawings.{graph_of}
use Rattle.route_texts.specs.declared.sewing_reports.PieceReport.{PieceReport}
use Rattle.route_texts.specs.PieceReports.{reports_from, piece_report}

-- the reports so far and those of the pieces that are left are all
pub record ReportsOn (whole so_far : List PieceReport) (number : ℕ) (rest : List Piece) (left : List PieceCert) : Type 0 where
  pub are : so_far ++ reports_from number rest left ≡ whole

pub reports_on : (whole so_far next : List PieceReport) (number : ℕ) (rest more : List Piece) (left after : List PieceCert)
    (p : Piece) (cert : PieceCert) → ReportsOn whole so_far number rest left → rest ≡ p ∷ more → left ≡ cert ∷ after
    → next ≡ so_far ++ piece_report (graph_of p) number cert ∷ [] → ReportsOn whole next (number + 1) more after
reports_on whole so_far next number rest more left after p cert on is are put = record {
  are = ap (λ (rs : List PieceReport). rs ++ reports_from (number + 1) more after) put
      ∙ append_assoc so_far (piece_report (graph_of p) number cert ∷ []) (reports_from (number + 1) more after)
      ∙ ap (λ (rs : List PieceReport). so_far ++ rs) (sym (both rest left is are)) ∙ on.are;
}
  where
    both : (ps : List Piece) (cs : List PieceCert) → ps ≡ p ∷ more → cs ≡ cert ∷ after
        → reports_from number ps cs ≡ piece_report (graph_of p) number cert ∷ reports_from (number + 1) more after
    both ps cs one other = ap (λ (qs : List Piece). reports_from number qs cs) one
        ∙ ap (λ (ds : List PieceCert). reports_from number (p ∷ more) ds) other

-- The blocks of the pieces after one, and their number.
pub blocks_behind : (rest more : List Piece) (p : Piece) → All (λ (q : Piece). q.block < 255) rest → rest ≡ p ∷ more
    → All (λ (q : Piece). q.block < 255) more
blocks_behind rest more p all is =
    All-tail (λ (q : Piece). q.block < 255) p more (subst (All (λ (q : Piece). q.block < 255)) is all)

pub fewer_left : (number : ℕ) (rest more : List Piece) (p : Piece) → number + length rest ≤ 1025 → rest ≡ p ∷ more
    → (number + 1) + length more ≤ 1025
fewer_left number rest more p few is = let same : length rest ≡ suc (length more) = ap length is in omega (arith, few, same)
