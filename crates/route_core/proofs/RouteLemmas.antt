-- The runs over a drawing, from the certificates of its pieces.
use Rattle.std.proofs.Common.{◌≡◌, ◌≤◌, ◌<◌, ℕ, List, [], ◌++◌, length, All, arith, sym, ◌∙◌, ap, subst}
use Rattle.route_core.proofs.Names.{nat_tests, AllZip, PieceCert, BoundsTotal, HasCanonicalText, walks_of, Piece, graph_of, lines_of_pieces, DrawingValue, KeepsDrawingLimits, IsValidPiece, PieceValue, piece_graph, AreWritable, commands_after, runs_of, sewn_design, FittingWalksAreSewable, PiecesKeepLimits, Routed, CertifiesLeastWalk, IsLeastPieceRoute, AllDrawn, append-nil, ArePiecesOf}
use Rattle.route_verdict.specs.declared.sewing_ways.Sewing.{Sewing}
use Rattle.route_verdict.specs.declared.sewing_ways.Sewing.TheVariants as ways
use Rattle.route_core.specs.RoutedPieceCertificates.{IsRoutedPiece}
use Rattle.route_core.specs.SewnDrawings.{AreCertsOf, IsCertOf, IsPieceSewn, IsSewnOver}
use Rattle.route_core.proofs.DoubleLemmas.{double_good}
use Rattle.route_core.proofs.SewnPieces.{Sewn, able, each_piece, zip_weaker}

-- what certifies the pieces that are left has certified all
pub record LeftPieces (way : Sewing) (pieces : List Piece) (certs : List PieceCert) (rest : List Piece) : Type 0 where
  pub whole : (more : List PieceCert) → AreCertsOf way rest more → AreCertsOf way pieces (certs ++ more)

pub all_made : (way : Sewing) (pieces left : List Piece) (certs : List PieceCert) → left ≡ [] → LeftPieces way pieces certs left
    → AreCertsOf way pieces certs
all_made way pieces left certs is l = grind (arith, nat_tests, append-nil certs)

-- all that is known of a piece and its least walk
least_good : (d : DrawingValue) → KeepsDrawingLimits d → FittingWalksAreSewable → BoundsTotal → (p : Piece) (cert : PieceCert)
    → All (λ line. line < length d.lines) p.lines
    → graph_of p ≡ piece_graph d p.lines → IsRoutedPiece p cert → IsLeastPieceRoute d p.lines cert × Sewn d p.lines cert
least_good d keeps sews keeps_total p cert below is routed =
    let proved = subst (λ (g : PieceValue). CertifiesLeastWalk g cert) is routed.proved in
    let kept = subst IsValidPiece is p.kept in
    let sewable = sews d p.lines cert.walk keeps below kept proved.fitting in (
      record { proved = proved; penetrations = sewable.penetrations },
      record {
        canonical = routed.canonical;
        sewable = sewable;
        below = below;
        costs = (omega (arith, keeps_total (piece_graph d p.lines) cert.cuts kept proved.packing, proved.total, proved.retraced));
      },
    )

-- the same of both ways
abbrev IsGood : Sewing → DrawingValue → List ℕ → PieceCert → Type 0
IsGood way d lines cert = IsPieceSewn way d lines cert × Sewn d lines cert

good : (way : Sewing) (d : DrawingValue) → KeepsDrawingLimits d → FittingWalksAreSewable → BoundsTotal → (p : Piece) (cert : PieceCert)
    → All (λ line. line < length d.lines) p.lines → graph_of p ≡ piece_graph d p.lines → IsCertOf way p cert → IsGood way d p.lines cert
good ways.Route d keeps sews keeps_total p cert below is made = least_good d keeps sews keeps_total p cert below is made
good ways.Double d keeps sews keeps_total p cert below is made = double_good d keeps sews p cert below is made

-- what is needed to sew the certificates, and what is then known
pub record Ready (way : Sewing) (d : DrawingValue) (pieces : List Piece) (certs : List PieceCert) : Type 0 where
  pub drawn : AllDrawn d certs
  pub room : length (commands_after 0 (runs_of d (walks_of certs))) ≤ 1000000
  pub over : (routed : Routed) → routed.cert.pieces ≡ certs → routed.design ≡ sewn_design d (walks_of certs)
      → IsSewnOver way d (lines_of_pieces pieces) routed

pub ready : (way : Sewing) (d : DrawingValue) → KeepsDrawingLimits d → FittingWalksAreSewable → PiecesKeepLimits → BoundsTotal
    → (pieces : List Piece) (certs : List PieceCert) → ArePiecesOf d pieces → AreCertsOf way pieces certs → Ready way d pieces certs
ready way d keeps sews limits keeps_total pieces certs cut made =
    let lines = lines_of_pieces pieces in
    let all = each_piece d (IsCertOf way) (IsGood way d) (good way d keeps sews keeps_total) pieces certs cut.are.there cut.each made in
    let is = able d keeps limits lines certs cut.are (zip_weaker (IsGood way d) (Sewn d) (λ p. λ c. λ good. good.1) lines certs all) in
    record {
      drawn = is.drawn;
      room = is.room;
      over = λ r. λ same. λ design. record {
        pieces_are = cut.are;
        each = subst (AllZip (IsPieceSewn way d) lines) (sym same)
            (zip_weaker (IsGood way d) (IsPieceSewn way d) (λ p. λ c. λ good. good.0) lines certs all);
        canonical = subst (All HasCanonicalText) (sym same) is.canonical;
        writable = subst (λ (cs : List PieceCert). AreWritable d.step (runs_of d (walks_of cs))) (sym same) is.writable;
        design = design ∙ ap (λ (cs : List PieceCert). sewn_design d (walks_of cs)) (sym same);
      };
    }
