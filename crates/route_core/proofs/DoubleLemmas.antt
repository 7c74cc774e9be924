-- The double run of a drawing, from the double walks over its pieces.
use Rattle.std.proofs.Common.{◌≡◌, ◌≤◌, ◌<◌, ◌^◌, ℕ, ◌+◌, List, [], ◌∷◌, length, All, Contains, arith, true, sym, ap, ◌∙◌, subst}
use Rattle.route_core.proofs.Names.{nat_tests, All-cons, All-contains, All-head, All-nil, All-tail, PieceCert, Cut, HasCanonicalText, Pass, Piece, graph_of, DrawingValue, KeepsDrawingLimits, IsValidPiece, PieceValue, piece_graph, BeginsWith, is_fitting_walk, FittingWalksAreSewable, IsSewable, IsDoubled, IsPlainCut, without_ends, IsDoubleCert}
use Rattle.route_core.proofs.SewnPieces.{Sewn}

-- a double walk and no cuts can be printed
doubles_spelled : (d : DrawingValue) (lines : List ℕ) (cert : PieceCert) (first : ℕ) → KeepsDrawingLimits d
    → All (λ line. line < length d.lines) lines
    → IsSewable d lines cert.walk → BeginsWith first cert.walk → cert.cuts ≡ [] → HasCanonicalText cert
doubles_spelled d lines cert first keeps below sewable begins none = record {
  some = λ is. subst (BeginsWith first) is begins;
  passes = few cert.walk sewable.there;
  plain = subst (All IsPlainCut) (sym none) (All-nil IsPlainCut);
  members = subst (All (λ (cut : Cut). All (λ j. j + 1 < 2 ^ 32) cut.members)) (sym none)
      (All-nil (λ (cut : Cut). All (λ j. j + 1 < 2 ^ 32) cut.members));
}
  where
    less : (n m : ℕ) → n < m → m ≤ 1024 → n + 1 < 2 ^ 32
    less n m is most = omega arith

    few : (walk : List Pass) → All (λ (pass : Pass). Contains lines pass.line) walk → All (λ (pass : Pass). pass.line + 1 < 2 ^ 32) walk
    few [] there = All-nil (λ (pass : Pass). pass.line + 1 < 2 ^ 32)
    few (q ∷ walk) there =
        All-cons (λ (pass : Pass). pass.line + 1 < 2 ^ 32) q walk
        (less q.line (length d.lines)
        (All-contains (λ line. line < length d.lines) lines q.line below (All-head (λ
        (pass : Pass). Contains lines pass.line) q walk there))
        keeps.line_count)
        (few walk (All-tail (λ (pass : Pass). Contains lines pass.line) q walk there))

-- the drawing without starts and ends, whose pieces have neither
abbrev unended : DrawingValue → DrawingValue
unended d = record d { starts = []; ends = [] }

-- a walk that fits a piece without them can be sewn
sewable_so : (d : DrawingValue) (lines : List ℕ) (walk : List Pass) → KeepsDrawingLimits d → FittingWalksAreSewable
    → All (λ line. line < length d.lines) lines → IsValidPiece (piece_graph d lines)
    → is_fitting_walk (without_ends (piece_graph d lines)) walk ≡ true → IsSewable d lines walk
sewable_so d lines walk keeps sews below kept fit =
    let s = sews (unended d) lines walk (grind (arith, nat_tests)) below (grind (arith, nat_tests)) fit in
    record { there = s.there; penetrations = s.penetrations; near = s.near }

-- all that is known of a piece and its double walk
pub double_good : (d : DrawingValue) → KeepsDrawingLimits d → FittingWalksAreSewable → (p : Piece) (cert : PieceCert)
    → All (λ line. line < length d.lines) p.lines → graph_of p ≡ piece_graph d p.lines → IsDoubleCert (graph_of p) cert
    → IsDoubled d p.lines cert × Sewn d p.lines cert
double_good d keeps sews p cert below is run =
    let double : IsDoubleCert (piece_graph d p.lines) cert = subst (λ (g : PieceValue). IsDoubleCert g cert) is run in
    let sewable = sewable_so d p.lines cert.walk keeps sews below (subst IsValidPiece is p.kept) double.fitting in (
      record {
        double = double.double;
        retraced = double.retraced;
        cuts = double.cuts;
        penetrations = sewable.penetrations ∙ ap (λ (n : ℕ). n + 1) double.cost;
      },
      record {
        canonical = doubles_spelled d p.lines cert _ keeps below sewable double.double.begins double.cuts;
        sewable = sewable;
        below = below;
        costs = (omega (arith, double.cost));
      },
    )
