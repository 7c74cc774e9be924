-- The certificate of a route is no longer than a file may be: each piece has few passes and few cuts, and each cut few members.
use Rattle.std.proofs.Common.{◌≡◌, ◌≤◌, ◌<◌, ℕ, ◌+◌, ◌*◌, ◌^◌, Bool, true, false, nat_lt, List, [], ◌∷◌, ◌++◌, length, All, decimal, codes, sum_by, if◌then◌else◌, arith}
use Rattle.std.proofs.lemmas.Bool.{and_parts, ltb-true}
use Rattle.std.proofs.lemmas.Fmt.{length-decimal-le}
use Rattle.std.proofs.lemmas.List.{length-append}
use Rattle.std.proofs.lemmas.List.Concat.{length-flat_map}
use Rattle.std.proofs.lemmas.List.Elements.{All-head, All-tail}
use Rattle.std.proofs.lemmas.List.Sums.{sum_by-cons, sum_by-le}
use Rattle.std.specs.List.{AllZip, flat_map}
use Rattle.certificate_text.specs.CertificateTexts.{certificate_text, cut_line_text, member_text, pass_text, passes_text, piece_text}
use Rattle.certificate_text.specs.ReadCertificates.{HasSmallNumbers}
use Rattle.design_model.specs.TextLines.{newline}
use Rattle.design_model.specs.declared.limits.TheConstants.{MAX_FILE}
use Rattle.line_graph.specs.Drawings.{DrawingValue, KeepsDrawingLimits}
use Rattle.line_graph.specs.DrawnWalks.{PiecesAreValid}
use Rattle.line_graph.specs.PieceGraphs.{piece_graph}
use Rattle.line_graph.specs.Pieces.{ArePieces}
use Rattle.line_graph.specs.PieceWalks.{all_greater, is_strictly_increasing, piece_cost}
use Rattle.line_graph.specs.SewnWalks.{PiecesKeepLimits}
use Rattle.line_graph.specs.ValidPieces.{IsValidPiece}
use Rattle.line_graph.specs.declared.pass.Pass.{Pass}
use Rattle.odd_cuts.specs.Certificates.{HasCanonicalText}
use Rattle.odd_cuts.specs.PackingBounds.{BoundsTotal}
use Rattle.odd_cuts.specs.declared.certificate.PieceCert.{PieceCert}
use Rattle.odd_cuts.specs.declared.cut.Cut.{Cut}
use Rattle.route_core.specs.Routes.{IsLeastPieceRoute}
use Rattle.stitch_cli.proofs.PieceSizes.{few_lines}

-- the lengths of numbers
small_length : (n : ℕ) → n < 2 ^ 32 → length (decimal n) ≤ 10
small_length n small = length-decimal-le 10 n (omega arith) (omega (arith, small)) (omega (arith, small))

index_length : (j : ℕ) → j < 1025 → length (decimal (j + 1)) ≤ 4
index_length j small = length-decimal-le 4 (j + 1) (omega arith) (omega (arith, small)) (omega (arith, small))

-- rising numbers below n are at most n
rising_from : (n x : ℕ) (xs : List ℕ) → is_strictly_increasing (x ∷ xs) ≡ true → All (λ j. j < n) (x ∷ xs) → length (x ∷ xs) + x ≤ n
rising_from n x [] rising below = omega (arith, All-head (λ j. j < n) x [] below)
rising_from n x (y ∷ ys) rising below =
    let parts = and_parts (all_greater x (y ∷ ys)) (is_strictly_increasing (y ∷ ys)) rising in
    let less : x < y = ltb-true x y (and_parts (nat_lt x y) (all_greater x ys) parts.0).0 in
    omega (arith, less, rising_from n y ys parts.1 (All-tail (λ j. j < n) x (y ∷ ys) below))

few_rising : (n : ℕ) (xs : List ℕ) → is_strictly_increasing xs ≡ true → All (λ j. j < n) xs → length xs ≤ n
few_rising n [] rising below = omega arith
few_rising n (x ∷ xs) rising below = omega (arith, rising_from n x xs rising below)

-- the lengths of lines
members_length : (n : ℕ) (xs : List ℕ) → n ≤ 1025 → All (λ j. j < n) xs → length (flat_map member_text xs) ≤ length xs * 5
members_length n xs few below = omega (
  arith,
  length-flat_map member_text xs,
  sum_by-le (λ j. length (member_text j)) 5 xs
      (λ k d lt. let j = below k d lt in one _ (omega (arith, j, few))),
)
  where
    one : (j : ℕ) → j < 1025 → length (member_text j) ≤ 5
    one j small = omega (arith, length-append (codes " ") (decimal (j + 1)), index_length j small)

cut_length : (n : ℕ) (cut : Cut) → n ≤ 1025 → cut.weight < 2 ^ 32 → All (λ j. j < n) cut.members
    → is_strictly_increasing cut.members ≡ true → length (cut_line_text cut) ≤ 5140
cut_length n cut few small below rising = omega (
  arith,
  few,
  length-append (codes "cut ") (decimal cut.weight ++ (flat_map member_text cut.members ++ newline)),
  length-append (decimal cut.weight) (flat_map member_text cut.members ++ newline),
  length-append (flat_map member_text cut.members) newline,
  small_length cut.weight small,
  members_length n cut.members few below,
  few_rising n cut.members rising below,
)

passes_length : (walk : List Pass) → All (λ (pass : Pass). pass.line + 1 < 2 ^ 32) walk → length (passes_text walk) ≤ length walk * 12
passes_length walk small = omega (
  arith,
  length-flat_map pass_text walk,
  sum_by-le (λ (pass : Pass). length (pass_text pass)) 12 walk (λ k d lt. one _ _ (small k d lt)),
)
  where
    one : (line : ℕ) (back : Bool) → line + 1 < 2 ^ 32 → length ((if back then codes " -" else codes " ") ++ decimal (line + 1)) ≤ 12
    one line true low = omega (arith, length-append (codes " -") (decimal (line + 1)), small_length (line + 1) low)
    one line false low = omega (arith, length-append (codes " ") (decimal (line + 1)), small_length (line + 1) low)

-- the length of the lines of a piece, by its cost and its number of lines
piece_length : (d : DrawingValue) (lines : List ℕ) (cert : PieceCert) → IsValidPiece (piece_graph d lines) → BoundsTotal
    → IsLeastPieceRoute d lines cert → HasCanonicalText cert → HasSmallNumbers cert
    → length (piece_text cert) ≤ 22 + 24 * piece_cost (piece_graph d lines) + 30840 * length lines
piece_length d lines cert kept law is canonical small = omega (
  arith,
  length-append (codes "piece ")
      (decimal cert.retraced ++ (newline ++ (codes "walk" ++ (passes_text cert.walk ++ (newline ++ flat_map cut_line_text cert.cuts))))),
  length-append (decimal cert.retraced)
      (newline ++ (codes "walk" ++ (passes_text cert.walk ++ (newline ++ flat_map cut_line_text cert.cuts)))),
  length-append newline (codes "walk" ++ (passes_text cert.walk ++ (newline ++ flat_map cut_line_text cert.cuts))),
  length-append (codes "walk") (passes_text cert.walk ++ (newline ++ flat_map cut_line_text cert.cuts)),
  length-append (passes_text cert.walk) (newline ++ flat_map cut_line_text cert.cuts),
  length-append newline (flat_map cut_line_text cert.cuts),
  small_length cert.retraced small.retraced,
  passes_length cert.walk canonical.passes,
  cuts,
  law (piece_graph d lines) cert.cuts kept is.proved.packing,
  is.proved.total,
  is.proved.retraced,
  is.proved.few_passes,
  is.proved.few_cuts,
  kept.junctions_few,
  kept.some,
)
  where
    junctions : ℕ
    junctions = length (piece_graph d lines).junctions

    few : length (piece_graph d lines).junctions ≤ 1025
    few = omega (arith, kept.junctions_few, kept.few)

    cuts : length (flat_map cut_line_text cert.cuts) ≤ length cert.cuts * 5140
    cuts = omega (
      arith,
      length-flat_map cut_line_text cert.cuts,
      sum_by-le (λ (cut : Cut). length (cut_line_text cut)) 5140 cert.cuts
          (λ k e lt. cut_length (length (piece_graph d lines).junctions) _ few (small.weights k e lt)
          (is.proved.packing.odd k e lt).there (canonical.plain k e lt).rising),
    )

pieces_length : (d : DrawingValue) (pieces : List (List ℕ)) (certs : List PieceCert) → BoundsTotal
    → All (λ lines. IsValidPiece (piece_graph d lines)) pieces → AllZip (IsLeastPieceRoute d) pieces certs → All HasCanonicalText certs
    → All HasSmallNumbers certs
    → length (flat_map piece_text certs)
    ≤ 22 * length pieces + 24 * sum_by (λ lines. piece_cost (piece_graph d lines)) pieces
    + 30840 * sum_by (λ (lines : List ℕ). length lines) pieces
pieces_length d [] [] law valid each canonical small = omega arith
pieces_length d [] (cert ∷ certs) law valid each canonical small = absurd each
pieces_length d (lines ∷ pieces) [] law valid each canonical small = absurd each
pieces_length d (lines ∷ pieces) (cert ∷ certs) law valid each canonical small = omega (
  arith,
  length-append (piece_text cert) (flat_map piece_text certs),
  sum_by-cons (λ lines. piece_cost (piece_graph d lines)) lines pieces,
  sum_by-cons (λ (lines : List ℕ). length lines) lines pieces,
  piece_length d lines cert (All-head (λ lines. IsValidPiece (piece_graph d lines)) lines pieces valid) law each.0
      (All-head HasCanonicalText cert certs canonical) (All-head HasSmallNumbers cert certs small),
  pieces_length d pieces certs law (All-tail (λ lines. IsValidPiece (piece_graph d lines)) lines pieces valid) each.1
      (All-tail HasCanonicalText cert certs canonical) (All-tail HasSmallNumbers cert certs small),
)

-- The certificate of a route is no longer than a file may be.
pub short_certificate : (d : DrawingValue) (pieces : List (List ℕ)) (certs : List PieceCert) → KeepsDrawingLimits d → ArePieces d pieces
    → PiecesAreValid → PiecesKeepLimits → BoundsTotal → AllZip (IsLeastPieceRoute d) pieces certs → All HasCanonicalText certs
    → All HasSmallNumbers certs → length (certificate_text certs) ≤ MAX_FILE
short_certificate d pieces certs keeps are valid limits law each canonical small =
    let within = limits d pieces keeps are in
    omega (
      arith,
      length-append (codes "redwork-certificate 1") (newline ++ (flat_map piece_text certs ++ (codes "end" ++ newline))),
      length-append newline (flat_map piece_text certs ++ (codes "end" ++ newline)),
      length-append (flat_map piece_text certs) (codes "end" ++ newline),
      pieces_length d pieces certs law (valid d pieces keeps are) each canonical small,
      within.cost,
      within.count,
      few_lines d pieces are,
      keeps.line_count,
    )
