-- What sewing a drawing makes, from what its steps make.
use Rattle.std.proofs.Common.{◌≡◌, ℕ, ◌+◌, ◌<◌, ◌≤◌, ◌^◌, List, [], ◌∷◌, length, All, refl, sym, ap, subst, ◌∙◌, arith}
use Rattle.std.specs.Prelude.{Ok}
use Rattle.stitch_cli.proofs.Names.{All-head, All-tail, sum_by-cons, AllZip, sum_by, PieceCert, walks_of, certificate_text, cert_of, IsPlain, Piece, ArePiecesOf, graph_of, lines_of_pieces, DrawingValue, PieceValue, piece_graph, piece_cost, Run, runs_of, ProductValue, Routed, PieceReport, Sewing, reports_from, piece_report, penetrations_of, sewing_report, IsSewnProduct, IsSewnFile, SewingOrder, piece_reports, IsSewnBy, block_of_passes, two_file_product, IsPieceSewn, IsSewnOver}
use Rattle.line_graph.specs.Walks.{needles_of_walk}
use Rattle.route_verdict.specs.declared.sewing_ways.Sewing.TheVariants as ways
use Rattle.stitch_cli.proofs.SewnDesigns.{runs_are_plain}
use Rattle.line_graph.proofs.CallerLemmas.{length_of_lists}

-- The design is plain for a format whose limit is at least the step of the drawing.
pub sewn_plain : (way : Sewing) (d : DrawingValue) (lines : List (List ℕ)) (routed : Routed) (limit : ℕ)
    → IsSewnOver way d lines routed → 121 ≤ limit → d.step ≤ limit → IsPlain limit routed.design
sewn_plain way d lines routed limit over least within =
    subst (IsPlain limit) (sym over.design)
    (runs_are_plain d (runs_of d (walks_of routed.cert.pieces)) d.step limit over.writable least within)

-- there are as many walks as pieces
walks_count : (way : Sewing) (d : DrawingValue) (lines : List (List ℕ)) (certs : List PieceCert) → AllZip (IsPieceSewn way d) lines certs
    → length lines ≡ length (runs_of d (walks_of certs))
walks_count way d [] [] each = refl
walks_count way d [] (cert ∷ certs) each = absurd each
walks_count way d (one ∷ lines) [] each = absurd each
walks_count way d (one ∷ lines) (cert ∷ certs) each = omega (arith, walks_count way d lines certs each.1)

-- There are few pieces.
pub pieces_few : (way : Sewing) (d : DrawingValue) (pieces slice : List Piece) (routed : Routed) → slice ≡ pieces
    → IsSewnOver way d (lines_of_pieces slice) routed → length pieces ≤ 1024
pieces_few way d pieces slice routed is over =
    let count = walks_count way d (lines_of_pieces slice) routed.cert.pieces over.each in
    let same : length slice ≡ length pieces = ap length is in
    omega (arith, count, same, length_of_lists slice, over.writable.runs_to)

-- the reports of pieces are those of their lines
pub reports_are : (d : DrawingValue) (number : ℕ) (pieces : List Piece) (certs : List PieceCert)
    → All (λ (p : Piece). graph_of p ≡ piece_graph d p.lines) pieces
    → reports_from number pieces certs ≡ piece_reports d number (lines_of_pieces pieces) certs
reports_are d number [] certs cut = refl
reports_are d number (p ∷ pieces) [] cut = refl
reports_are d number (p ∷ pieces) (cert ∷ certs) cut =
    ap (λ (g : PieceValue). piece_report g number cert ∷ reports_from (number + 1) pieces certs)
    (All-head (λ (q : Piece). graph_of q ≡ piece_graph d q.lines) p pieces cut)
    ∙ ap (λ (rest : List PieceReport). piece_report (piece_graph d p.lines) number cert ∷ rest)
    (reports_are d (number + 1) pieces certs (All-tail (λ (q : Piece). graph_of q ≡ piece_graph d q.lines) p pieces cut))

-- the needle goes down once more often along a walk than the lines and the retraced ones have steps
piece_penetrations : (way : Sewing) (d : DrawingValue) (lines : List ℕ) (cert : PieceCert) → IsPieceSewn way d lines cert
    → length (needles_of_walk d cert.walk) ≡ piece_cost (piece_graph d lines) + cert.retraced + 1
piece_penetrations ways.Route d lines cert best = omega (arith, best.penetrations, best.proved.retraced)
piece_penetrations ways.Double d lines cert doubled = omega (arith, doubled.penetrations, doubled.retraced)

-- as often as the needle goes down in the pieces, it goes down along their walks
penetrations_are : (way : Sewing) (d : DrawingValue) (number : ℕ) (pieces : List (List ℕ)) (certs : List PieceCert)
    → AllZip (IsPieceSewn way d) pieces certs
    → sum_by penetrations_of (piece_reports d number pieces certs) ≡ sum_by (λ (run : Run). length run.needles) (runs_of d (walks_of certs))
penetrations_are way d number [] [] each = refl
penetrations_are way d number [] (cert ∷ certs) each = absurd each
penetrations_are way d number (lines ∷ pieces) [] each = absurd each
penetrations_are way d number (lines ∷ pieces) (cert ∷ certs) each =
    let here = sum_by-cons penetrations_of (piece_report (piece_graph d lines) number cert) (piece_reports d (number + 1) pieces certs) in
    let there = sum_by-cons (λ (run : Run). length run.needles)
    (record { block = block_of_passes d cert.walk; needles = needles_of_walk d cert.walk }) (runs_of d (walks_of certs)) in
    omega (arith, penetrations_are way d (number + 1) pieces certs each.1, here, there, piece_penetrations way d lines cert each.0)

-- and not too often for the report
pub penetrations_few : (way : Sewing) (d : DrawingValue) (pieces : List Piece) (routed : Routed) → ArePiecesOf d pieces
    → IsSewnOver way d (lines_of_pieces pieces) routed → sum_by penetrations_of (reports_from 1 pieces routed.cert.pieces) < 2 ^ 32
penetrations_few way d pieces routed cut over =
    let same : sum_by penetrations_of (reports_from 1 pieces routed.cert.pieces)
    ≡ sum_by penetrations_of (piece_reports d 1 (lines_of_pieces pieces) routed.cert.pieces)
    = ap (sum_by penetrations_of) (reports_are d 1 pieces routed.cert.pieces cut.each) in
    omega (arith, same, penetrations_are way d 1 (lines_of_pieces pieces) routed.cert.pieces over.each, over.writable.needles_to)

-- Sewing makes the certificate, the design and the report.
pub sewing_makes : (way : Sewing) (order : SewingOrder) (d : DrawingValue) (pieces : List Piece) (routed : Routed)
    (design cert report : List ℕ) (product : ProductValue) → ArePiecesOf d pieces → IsSewnOver way d (lines_of_pieces pieces) routed
    → IsSewnFile order.format d (walks_of routed.cert.pieces) design → cert ≡ certificate_text routed.cert.pieces
    → cert_of cert ≡ Ok routed.cert.pieces → report ≡ sewing_report way (reports_from 1 pieces routed.cert.pieces)
    → product ≡ two_file_product (record { name = order.cert; content = cert }) (record { name = order.out; content = design }) report
    → IsSewnProduct (IsSewnBy way) order d product
sewing_makes way order d pieces routed design cert report product cut over sewn certified again reported made = record {
  files = record { design_file = design; cert_text = cert; report = report };
  sewn = record {
    pieces = lines_of_pieces pieces;
    certs = routed.cert.pieces;
    pieces_are = over.pieces_are;
    each = over.each;
    sewn = sewn;
    cert_is = certified;
    cert_reads = again;
    report_is = reported ∙ ap (sewing_report way) (reports_are d 1 pieces routed.cert.pieces cut.each);
  };
  made = made;
}
