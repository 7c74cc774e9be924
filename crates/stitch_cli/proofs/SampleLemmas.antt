-- What a sample makes, from what its steps make.
use Rattle.std.proofs.Common.{◌≡◌, ℕ, ◌+◌, ◌*◌, List, [], ◌∷◌, length, All, refl, ap, ◌∙◌, arith}
use Rattle.route_verdict.specs.declared.sewing_ways.Sewing.TheVariants as ways
use Rattle.stitch_cli.proofs.Names.{All-head, All-tail, sum_by-cons, AllZip, sum_by, PieceCert, Piece, ArePiecesOf, graph_of, lines_of_pieces, DrawingValue, PieceValue, piece_graph, piece_cost, Routed, IsLeastPieceRoute, IsSewnOver, PieceReport, ProductValue, reports_from, piece_report, piece_reports, IsSampleProduct, SampleOrder, summary_of, penetrations_of, summary_text, one_file_product, cut_sum, sum_over_pieces, retraced_sum}
use Rattle.odd_cuts.specs.Cuts.{total_weight}
use Rattle.drawing_text.specs.CanonicalTexts.{canonical_text}
use Rattle.route_texts.specs.declared.summary.Summary.{Summary}
use Rattle.route_texts.specs.PieceSums.{junctions_of_piece, odd_junctions_of_piece, sample_summary}
use Rattle.stitch_cli.proofs.SewingLemmas.{reports_are}

-- a sum over pieces that are cut from a drawing is one over their lines
sums_are : (count : PieceValue → ℕ) (d : DrawingValue) (pieces : List Piece)
    → All (λ (p : Piece). graph_of p ≡ piece_graph d p.lines) pieces
    → sum_by (λ (p : Piece). count (graph_of p)) pieces ≡ sum_over_pieces count d (lines_of_pieces pieces)
sums_are count d [] cut = refl
sums_are count d (p ∷ pieces) cut = omega (
  arith,
  sum_by-cons (λ (q : Piece). count (graph_of q)) p pieces,
  sum_by-cons (λ (lines : List ℕ). count (piece_graph d lines)) p.lines (lines_of_pieces pieces),
  ap count (All-head (λ (q : Piece). graph_of q ≡ piece_graph d q.lines) p pieces cut),
  sums_are count d pieces (All-tail (λ (q : Piece). graph_of q ≡ piece_graph d q.lines) p pieces cut),
)

-- the sums of the report of a route, and those of its pieces and certificates
record ReportSums (d : DrawingValue) (pieces : List (List ℕ)) (certs : List PieceCert) (reports : List PieceReport) : Type 0 where
  pub cost : sum_by (λ (r : PieceReport). r.cost) reports ≡ sum_over_pieces piece_cost d pieces
  pub retraced : sum_by (λ (r : PieceReport). r.retraced) reports ≡ retraced_sum certs
  pub cuts : cut_sum certs ≡ 2 * retraced_sum certs
  pub penetrations : sum_by penetrations_of reports ≡ (sum_over_pieces piece_cost d pieces + retraced_sum certs) + length pieces

report_sums : (d : DrawingValue) (number : ℕ) (pieces : List (List ℕ)) (certs : List PieceCert) → AllZip (IsLeastPieceRoute d) pieces certs
    → ReportSums d pieces certs (piece_reports d number pieces certs)
report_sums d number [] [] best = record { cost = refl; retraced = refl; cuts = refl; penetrations = refl }
report_sums d number [] (cert ∷ certs) best = absurd best
report_sums d number (lines ∷ pieces) [] best = absurd best
report_sums d number (lines ∷ pieces) (cert ∷ certs) best =
    let rest = piece_reports d (number + 1) pieces certs in
    let first : PieceReport = piece_report (piece_graph d lines) number cert in
    let later = report_sums d (number + 1) pieces certs best.1 in
    let costs = sum_by-cons (λ (r : PieceReport). r.cost) first rest in
    let retraces = sum_by-cons (λ (r : PieceReport). r.retraced) first rest in
    let needles = sum_by-cons penetrations_of first rest in
    let over = sum_by-cons (λ (ls : List ℕ). piece_cost (piece_graph d ls)) lines pieces in
    let said = sum_by-cons (λ (c : PieceCert). c.retraced) cert certs in
    let weights = sum_by-cons (λ (c : PieceCert). total_weight c.cuts) cert certs in
    record {
      cost = omega (arith, costs, over, later.cost);
      retraced = omega (arith, retraces, said, later.retraced);
      cuts = omega (arith, said, weights, later.cuts, best.0.proved.total);
      penetrations = omega (arith, needles, over, said, later.penetrations);
    }

lines_count : (pieces : List Piece) → length pieces ≡ length (lines_of_pieces pieces)
lines_count [] = refl
lines_count (p ∷ pieces) = let later = lines_count pieces in omega (arith, later)

-- The summary that the steps compute is the specified one.
summary_is : (number : ℕ) (d : DrawingValue) (pieces : List Piece) (certs : List PieceCert) → ArePiecesOf d pieces
    → AllZip (IsLeastPieceRoute d) (lines_of_pieces pieces) certs
    → sample_summary number (length d.lines) pieces (reports_from 1 pieces certs) ≡ summary_of number d (lines_of_pieces pieces) certs
summary_is number d pieces certs cut best =
    let told = report_sums d 1 (lines_of_pieces pieces) certs best in
    rw (
      reports_are d 1 pieces certs cut.each,
      sums_are junctions_of_piece d pieces cut.each,
      sums_are odd_junctions_of_piece d pieces cut.each,
      lines_count pieces,
      told.cost,
      told.retraced,
      told.penetrations,
      told.cuts,
    ) refl

-- The product of a sample is the canonical text of its drawing and the summary.
pub sample_makes : (order : SampleOrder) (d : DrawingValue) (pieces : List Piece) (routed : Routed) (s : Summary) (text report : List ℕ)
    (product : ProductValue) → ArePiecesOf d pieces → IsSewnOver ways.Route d (lines_of_pieces pieces) routed
    → s ≡ sample_summary order.number (length d.lines) pieces (reports_from 1 pieces routed.cert.pieces) → text ≡ canonical_text d
    → report ≡ summary_text s → product ≡ one_file_product order.drawing text report → IsSampleProduct order d product
sample_makes order d pieces routed s text report product cut route told spelled reported made = record {
  pieces = lines_of_pieces pieces;
  certs = routed.cert.pieces;
  pieces_are = route.pieces_are;
  best = route.each;
  made = made ∙ ap (λ (t : List ℕ). one_file_product order.drawing t report) spelled
      ∙ ap (one_file_product order.drawing (canonical_text d)) (reported
      ∙ ap summary_text (told ∙ summary_is order.number d pieces routed.cert.pieces cut route.each));
}
