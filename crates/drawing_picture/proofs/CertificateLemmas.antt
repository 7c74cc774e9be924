-- Certificates without a fault can be sewn, and what they sew is least redwork.
use Rattle.std.proofs.Common.{◌≡◌, ◌≤◌, ◌<◌, ℕ, suc, ◌+◌, ◌*◌, List, [], ◌∷◌, Option, None, length, map, All, Contains, sum_by, arith, refl, ap, subst, ◌∙◌}
use Rattle.drawing_picture.proofs.Names.{All-head, All-tail, sum_by-cons, PieceCert, DesignValue, IsFirstFault, bands_of_pieces, retraced_steps, Piece, DrawingValue, PieceValue, piece_graph, ArePiecesOf, graph_of, lines_of_pieces, IsValidPiece, count_reason, piece_reason, pieces_reason, length-map, All-cons, All-contains, All-nil, AllZip, concat, total_weight, AreSewn, IsShownProof, RightCertificatesAreSewn, certificate_reason, proof_of_design, KeepsDrawingLimits, IsCorrectPieceCert, IsCorrectRoute, commands_count}
use Rattle.odd_cuts.specs.Certificates.{walks_of}
use Rattle.picture_parts.specs.declared.sizes.PictureSize.{PictureSize}
use Rattle.odd_cuts.specs.FaultTheorems.{CutFaultsAreExact, WalkFaultsAreExact}
use Rattle.odd_cuts.specs.PackingBounds.{BoundsTotal, BoundsWalks}
use Rattle.line_graph.specs.declared.pass.Pass.{Pass}
use Rattle.line_graph.specs.DrawnWalks.{PiecesAreValid}
use Rattle.line_graph.specs.PieceWalks.{piece_cost, walk_cost}
use Rattle.line_graph.specs.Runs.{HasNeedle, Run, RunsAreSewn, run_of, runs_of, sewn_design}
use Rattle.line_graph.specs.SewnWalks.{ArePiecesWithin, FittingWalksAreSewable, GoesAlong, IsSewable, PiecesKeepLimits}
use Rattle.line_graph.specs.UniquePieces.{PiecesAreUnique}
use Rattle.line_graph.specs.Walks.{needles_of_walk}
use Rattle.route_verdict.specs.SewingSteps.{AllDrawn, AreDrawn}
use Rattle.route_verdict.specs.VerdictTheorems.{CorrectRoutesAreAccepted, YesIsLeastRedwork}
use Rattle.design_model.proofs.ListLemmas.{below_left, below_right}
use Rattle.odd_cuts.proofs.CallerLemmas.{both_none}
use Rattle.route_verdict.proofs.CallerLemmas.{count_none, piece_correct}

-- the lines of each piece are lines of the drawing
pub lines_there : (n : ℕ) (pieces : List Piece) → All (λ line. line < n) (concat (lines_of_pieces pieces))
    → All (λ (p : Piece). All (λ line. line < n) p.lines) pieces
lines_there n [] below = All-nil (λ (p : Piece). All (λ line. line < n) p.lines)
lines_there n (p ∷ pieces) below =
    All-cons (λ (p : Piece). All (λ line. line < n) p.lines) p pieces (below_left n p.lines (concat (lines_of_pieces pieces)) below)
    (lines_there n pieces (below_right n p.lines (concat (lines_of_pieces pieces)) below))

-- a piece with a correct certificate, whose walk can be sewn
record IsReady (d : DrawingValue) (lines : List ℕ) (cert : PieceCert) : Type 0 where
  correct : IsCorrectPieceCert (piece_graph d lines) cert
  sewable : IsSewable d lines cert.walk
  below : All (λ line. line < length d.lines) lines
  costs : walk_cost (piece_graph d lines) cert.walk ≤ 2 * piece_cost (piece_graph d lines)

-- pieces with correct certificates, whose walks can be sewn with few needles
record AreReady (d : DrawingValue) (pieces : List (List ℕ)) (certs : List PieceCert) : Type 0 where
  correct : AllZip (λ lines cert. IsCorrectPieceCert (piece_graph d lines) cert) pieces certs
  along : AllZip GoesAlong pieces (walks_of certs)
  needled : All HasNeedle (runs_of d (walks_of certs))
  drawn : AllDrawn d certs
  needles : sum_by (λ (run : Run). length run.needles) (runs_of d (walks_of certs))
      ≤ 2 * sum_by (λ lines. piece_cost (piece_graph d lines)) pieces + length pieces
  count : length (runs_of d (walks_of certs)) ≡ length pieces

some_pass : (d : DrawingValue) (walk : List Pass) (cost : ℕ) → length (needles_of_walk d walk) ≡ cost + 1 → 1 ≤ length walk
some_pass d [] cost is = absurd (omega (arith, is))
some_pass d (p ∷ walk) cost is = omega arith

drawn_along : (d : DrawingValue) (lines : List ℕ) (walk : List Pass) → All (λ line. line < length d.lines) lines
    → All (λ (pass : Pass). Contains lines pass.line) walk → AreDrawn d walk
drawn_along d lines [] below there = All-nil (λ (pass : Pass). pass.line < length d.lines)
drawn_along d lines (q ∷ walk) below there =
    All-cons (λ (pass : Pass). pass.line < length d.lines) q walk
    (All-contains (λ line. line < length d.lines) lines q.line below (All-head (λ (pass : Pass). Contains lines pass.line) q walk there))
    (drawn_along d lines walk below (All-tail (λ (pass : Pass). Contains lines pass.line) q walk there))

module _ (walks : WalkFaultsAreExact) (cuts : CutFaultsAreExact) (bounds : BoundsWalks) (most : BoundsTotal)
    (sews : FittingWalksAreSewable) (d : DrawingValue) (keeps : KeepsDrawingLimits d) where
  ready : (lines : List ℕ) (number : ℕ) (cert : PieceCert) → All (λ line. line < length d.lines) lines
      → IsValidPiece (piece_graph d lines)
      → piece_reason (piece_graph d lines) number cert ≡ None → IsReady d lines cert
  ready lines number cert below valid none =
      let is = piece_correct walks cuts bounds (piece_graph d lines) valid number cert none in
      record {
        correct = is;
        sewable = sews d lines cert.walk keeps below valid is.fitting;
        below = below;
        costs = few (total_weight cert.cuts) cert.retraced (piece_cost (piece_graph d lines)) (walk_cost (piece_graph d lines) cert.walk)
            (most (piece_graph d lines) cert.cuts valid is.packing) is.total is.retraced;
      }
    where
      few : (t r c w : ℕ) → t ≤ 2 * c → t ≡ 2 * r → w ≡ c + r → w ≤ 2 * c
      few t r c w a b e = omega arith

  -- The certificates of pieces, if none has a fault.
  all_ready : (pieces : List (List ℕ)) (number : ℕ) (certs : List PieceCert) → All (λ line. line < length d.lines) (concat pieces)
      → All (λ lines. IsValidPiece (piece_graph d lines)) pieces → length certs ≡ length pieces
      → pieces_reason number (map (piece_graph d) pieces) certs ≡ None → AreReady d pieces certs
  all_ready [] number [] below valid long none = record {
    correct = tt;
    along = tt;
    needled = All-nil HasNeedle;
    drawn = All-nil (λ (piece : PieceCert). AreDrawn d piece.walk);
    needles = omega arith;
    count = refl;
  }
  all_ready [] number (c ∷ certs) below valid long none = absurd (omega (arith, long))
  all_ready (p ∷ pieces) number [] below valid long none = absurd (omega (arith, long))
  all_ready (p ∷ pieces) number (c ∷ certs) below valid long none =
      let both = both_none (piece_reason (piece_graph d p) number c)
      (pieces_reason (number + 1) (map (piece_graph d) pieces) certs) none in
      let here = ready p number c (below_left (length d.lines) p (concat pieces) below)
      (All-head (λ lines. IsValidPiece (piece_graph d lines)) p pieces valid) both.0 in
      let later = all_ready pieces (number + 1) certs (below_right (length d.lines) p (concat pieces) below)
      (All-tail (λ lines. IsValidPiece (piece_graph d lines)) p pieces valid) (omega (arith, long)) both.1 in
      record {
        correct = (here.correct, later.correct);
        along = (record { some = some_pass d c.walk _ here.sewable.penetrations; there = here.sewable.there }, later.along);
        needled = All-cons HasNeedle (run_of d c.walk) (runs_of d (walks_of certs)) here.sewable.near.some later.needled;
        drawn = All-cons (λ (piece : PieceCert). AreDrawn d piece.walk) c certs
            (drawn_along d p c.walk here.below here.sewable.there) later.drawn;
        needles =
            let needles = sum_by-cons (λ (run : Run). length run.needles) (run_of d c.walk) (runs_of d (walks_of certs)) in
            let costs = sum_by-cons (λ lines. piece_cost (piece_graph d lines)) p pieces in
            omega (arith, needles, costs, here.sewable.penetrations, here.costs, later.needles);
        count = ap (λ (n : ℕ). suc n) later.count;
      }

pub right_are_sewn : WalkFaultsAreExact → CutFaultsAreExact → BoundsWalks → BoundsTotal → FittingWalksAreSewable → PiecesAreValid
    → PiecesKeepLimits → RunsAreSewn → CorrectRoutesAreAccepted → YesIsLeastRedwork → RightCertificatesAreSewn
right_are_sewn walks cuts bounds most sews valid limits runs accepted least d pieces certs keeps are none =
    let graphs = map (piece_graph d) pieces in
    let both = both_none (count_reason (length certs) (length graphs)) (pieces_reason 1 graphs certs) none in
    let count : length certs ≡ length pieces =
    omega (arith, count_none (length certs) (length graphs) both.0, length-map pieces (piece_graph d)) in
    let all = all_ready walks cuts bounds most sews d keeps pieces 1 certs are.there (valid d pieces keeps are) count both.1 in
    let within : ArePiecesWithin d pieces = limits d pieces keeps are in
    let correct : IsCorrectRoute d pieces (sewn_design d (walks_of certs)) certs = record {
      each = all.correct;
      sews = runs d (runs_of d (walks_of certs)) all.needled;
    } in
    record {
      drawn = all.drawn;
      room = omega (
        arith,
        commands_count 0 (runs_of d (walks_of certs)),
        all.needles,
        all.count,
        within.cost,
        within.count,
        within.stops (walks_of certs) all.along,
        keeps.blocks_to,
      );
      least = (least d (sewn_design d (walks_of certs)) certs keeps).0
          (accepted d pieces (sewn_design d (walks_of certs)) certs keeps are correct);
    }

-- computed pieces are the graphs of their lines
pub graphs_are : (d : DrawingValue) (pieces : List Piece) → All (λ (p : Piece). graph_of p ≡ piece_graph d p.lines) pieces
    → map graph_of pieces ≡ map (piece_graph d) (lines_of_pieces pieces)
graphs_are d [] each = refl
graphs_are d (p ∷ pieces) each =
    ap (λ (g : PieceValue). g ∷ map graph_of pieces) (All-head (λ (p : Piece). graph_of p ≡ piece_graph d p.lines) p pieces each)
    ∙ ap (λ (gs : List PieceValue). piece_graph d p.lines ∷ gs)
    (graphs_are d pieces (All-tail (λ (p : Piece). graph_of p ≡ piece_graph d p.lines) p pieces each))

-- certificates without a fault are sewn
pub sewn_of : RightCertificatesAreSewn → (d : DrawingValue) (certs : List PieceCert) → KeepsDrawingLimits d → IsFirstFault d certs None
    → AreSewn d certs
sewn_of sewn d certs keeps found = sewn d found.pieces certs keeps found.pieces_are found.is

-- the picture of their proof
pub shown_of : PiecesAreUnique → RightCertificatesAreSewn → (d : DrawingValue) (certs : List PieceCert) (pieces : List Piece)
    (design : DesignValue) (size : Option PictureSize) (text : List ℕ) → KeepsDrawingLimits d → IsFirstFault d certs None
    → ArePiecesOf d pieces → design ≡ sewn_design d (walks_of certs)
    → text ≡ proof_of_design design size (bands_of_pieces d (map graph_of pieces) certs) (retraced_steps certs)
    → IsShownProof d certs size text
shown_of one sewn d certs pieces design size text keeps found cut is shown =
    let same : found.pieces ≡ lines_of_pieces pieces = one d found.pieces (lines_of_pieces pieces) found.pieces_are cut.are in
    record {
      pieces = lines_of_pieces pieces;
      pieces_are = cut.are;
      right = subst (λ (ps : List (List ℕ)). certificate_reason (map (piece_graph d) ps) certs ≡ None) same found.is;
      least = (sewn_of sewn d certs keeps found).least;
      shown = shown
          ∙ ap (λ (de : DesignValue). proof_of_design de size (bands_of_pieces d (map graph_of pieces) certs) (retraced_steps certs)) is
          ∙ ap (λ (gs : List PieceValue). proof_of_design (sewn_design d (walks_of certs)) size (bands_of_pieces d gs certs)
          (retraced_steps certs)) (graphs_are d pieces cut.each);
    }
