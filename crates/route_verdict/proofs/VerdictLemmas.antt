-- Verdicts: no reason is found exactly where all is right, and then each walk is least.
use Rattle.std.proofs.Common.{◌≡◌, ◌⊎◌, ◌≤◌, ◌<◌, ℕ, ◌+◌, true, List, [], ◌∷◌, ◌++◌, Option, Some, None, length, map, All, Contains, arith, refl, sym, ◌∙◌, ap, subst}
use Rattle.route_verdict.proofs.Names.{nat_tests, All-cons, All-head, All-nil, All-tail, AllZip, concat, PieceCert, BoundsWalks, cuts_fault, CutFaultsAreExact, WalkFaultsAreExact, first_fault, walk_fault, acts_of, acts_without_numbers, DesignValue, Pass, Piece, graph_of, DrawingValue, KeepsDrawingLimits, PiecesAreValid, ArePieces, IsValidPiece, PieceValue, piece_graph, IsLeastWalk, is_fitting_walk, runs_of, sewn_acts, FittingWalksAreSewable, Verdict, CorrectRoutesAreAccepted, walks_of, AllDrawn, AreDrawn, IsCorrectRoute, IsCorrectPieceCert, cost_above, count_reason, cuts_reason, piece_reason, pieces_reason, retraced_reason, verdict_of, walk_reason, both_none, length-map, All-contains, ProvesLeast, ArePiecesOf, lines_of_pieces, ArePiecesWithin, PiecesKeepLimits, IsVerdictOver, acts_reason, difference_of, reason_of, verdict_of_reason, number_found}
use Rattle.route_verdict.specs.declared.verdict.Reason.{Reason}
use Rattle.route_verdict.specs.declared.verdict.Verdict.TheVariants as verdict
use Rattle.route_verdict.proofs.SameActs.{no_difference, none_with_itself}
use Rattle.route_verdict.proofs.CallerLemmas.{count_none, piece_correct, walk_none}

-- where pieces or certificates end, no reason is left
pub no_reason_left : (number : ℕ) (pieces : List Piece) (certs : List PieceCert) → (pieces ≡ []) ⊎ (certs ≡ [])
    → None ≡ pieces_reason number (map graph_of pieces) certs
no_reason_left number [] certs end = refl
no_reason_left number (p ∷ pieces) certs end = grind (arith, nat_tests)

acts_none : (found : Option ℕ) → acts_reason found ≡ None → found ≡ None
acts_none None is = refl
acts_none (Some number) is = absurd (cc)

-- and a right one has none
piece_told : WalkFaultsAreExact → CutFaultsAreExact → (p : PieceValue) → IsValidPiece p → (number : ℕ) (cert : PieceCert)
    → IsCorrectPieceCert p cert → piece_reason p number cert ≡ None
piece_told walks cuts p keeps number cert right = grind (arith, nat_tests)

pieces_right : WalkFaultsAreExact → CutFaultsAreExact → BoundsWalks → (graphs : List PieceValue) (certs : List PieceCert) (number : ℕ)
    → All IsValidPiece graphs → length certs ≡ length graphs → pieces_reason number graphs certs ≡ None
    → AllZip IsCorrectPieceCert graphs certs
pieces_right walks cuts bounds [] [] number kept long none = tt
pieces_right walks cuts bounds [] (c ∷ certs) number kept long none = absurd (omega (arith, long))
pieces_right walks cuts bounds (p ∷ graphs) [] number kept long none = absurd (omega (arith, long))
pieces_right walks cuts bounds (p ∷ graphs) (c ∷ certs) number kept long none =
    let both = both_none (piece_reason p number c) (pieces_reason (number + 1) graphs certs) none in (
      piece_correct walks cuts bounds p (All-head IsValidPiece p graphs kept) number c both.0,
      pieces_right walks cuts bounds graphs certs (number + 1) (All-tail IsValidPiece p graphs kept) (omega (arith, long)) both.1,
    )

pieces_told : WalkFaultsAreExact → CutFaultsAreExact → (graphs : List PieceValue) (certs : List PieceCert) (number : ℕ)
    → All IsValidPiece graphs → AllZip IsCorrectPieceCert graphs certs
    → (length certs ≡ length graphs) × (pieces_reason number graphs certs ≡ None)
pieces_told walks cuts [] [] number kept right = (refl, refl)
pieces_told walks cuts [] (c ∷ certs) number kept right = absurd right
pieces_told walks cuts (p ∷ graphs) [] number kept right = absurd right
pieces_told walks cuts (p ∷ graphs) (c ∷ certs) number kept right =
    let rest = pieces_told walks cuts graphs certs (number + 1) (All-tail IsValidPiece p graphs kept) right.1 in
    (omega (arith, rest.0), rw (piece_told walks cuts p (All-head IsValidPiece p graphs kept) number c right.0, rest.1) refl)

-- each walk of right pieces is least
least_of : ProvesLeast → (graphs : List PieceValue) (certs : List PieceCert) → All IsValidPiece graphs
    → AllZip IsCorrectPieceCert graphs certs → AllZip (λ p cert. IsLeastWalk p cert.walk) graphs certs
least_of proves [] [] kept right = tt
least_of proves [] (c ∷ certs) kept right = absurd right
least_of proves (p ∷ graphs) [] kept right = absurd right
least_of proves (p ∷ graphs) (c ∷ certs) kept right = (
  proves p c.cuts c.walk (All-head IsValidPiece p graphs kept) right.0.packing (omega (arith, right.0.total, right.0.retraced)),
  least_of proves graphs certs (All-tail IsValidPiece p graphs kept) right.1,
)

-- a piece of a drawing is the graph of its lines
abbrev IsCut : DrawingValue → Piece → Type 0
IsCut d p = graph_of p ≡ piece_graph d p.lines

-- what holds of graphs and certificates holds of the lines of the pieces
over_lines : (f : List ℕ → PieceValue) (R : PieceValue → PieceCert → Type 0) (pieces : List (List ℕ)) (certs : List PieceCert)
    → AllZip R (map f pieces) certs → AllZip (λ lines cert. R (f lines) cert) pieces certs
over_lines f R [] [] all = tt
over_lines f R [] (c ∷ certs) all = absurd all
over_lines f R (lines ∷ pieces) [] all = absurd all
over_lines f R (lines ∷ pieces) (c ∷ certs) all = (all.0, over_lines f R pieces certs all.1)

over_graphs : (f : List ℕ → PieceValue) (R : PieceValue → PieceCert → Type 0) (pieces : List (List ℕ)) (certs : List PieceCert)
    → AllZip (λ lines cert. R (f lines) cert) pieces certs → AllZip R (map f pieces) certs
over_graphs f R [] [] all = tt
over_graphs f R [] (c ∷ certs) all = absurd all
over_graphs f R (lines ∷ pieces) [] all = absurd all
over_graphs f R (lines ∷ pieces) (c ∷ certs) all = (all.0, over_graphs f R pieces certs all.1)

graphs_are : (d : DrawingValue) (pieces : List Piece) → All (IsCut d) pieces
    → map graph_of pieces ≡ map (piece_graph d) (lines_of_pieces pieces)
graphs_are d [] each = refl
graphs_are d (p ∷ pieces) each =
    ap (λ (g : PieceValue). g ∷ map graph_of pieces) (All-head (IsCut d) p pieces each)
    ∙ ap (λ (gs : List PieceValue). piece_graph d p.lines ∷ gs) (graphs_are d pieces (All-tail (IsCut d) p pieces each))

graphs_kept : (pieces : List Piece) → All IsValidPiece (map graph_of pieces)
graphs_kept [] = All-nil IsValidPiece
graphs_kept (p ∷ pieces) = All-cons IsValidPiece (graph_of p) (map graph_of pieces) p.kept (graphs_kept pieces)

-- right walks go along lines of the drawing
along : (d : DrawingValue) (p : Piece) (walk : List Pass) → All (λ line. line < length d.lines) p.lines
    → All (λ (pass : Pass). Contains p.lines pass.line) walk → AreDrawn d walk
along d p [] below there = All-nil (λ (pass : Pass). pass.line < length d.lines)
along d p (q ∷ walk) below there =
    All-cons (λ (pass : Pass). pass.line < length d.lines) q walk
    (All-contains (λ line. line < length d.lines) p.lines q.line below
    (All-head (λ (pass : Pass). Contains p.lines pass.line) q walk there))
    (along d p walk below (All-tail (λ (pass : Pass). Contains p.lines pass.line) q walk there))

all_along : (d : DrawingValue) → KeepsDrawingLimits d → FittingWalksAreSewable → WalkFaultsAreExact
    → (pieces : List Piece) (certs : List PieceCert) (number : ℕ) → All (λ line. line < length d.lines) (concat (lines_of_pieces pieces))
    → All (IsCut d) pieces → length certs ≡ length pieces → pieces_reason number (map graph_of pieces) certs ≡ None → AllDrawn d certs
all_along d keeps sews walks [] [] number below each long none = All-nil (λ (piece : PieceCert). AreDrawn d piece.walk)
all_along d keeps sews walks [] (c ∷ certs) number below each long none = absurd (omega (arith, long))
all_along d keeps sews walks (p ∷ pieces) [] number below each long none = absurd (omega (arith, long))
all_along d keeps sews walks (p ∷ pieces) (c ∷ certs) number below each long none =
    let both = both_none (piece_reason (graph_of p) number c) (pieces_reason (number + 1) (map graph_of pieces) certs) none in
    let first = both_none (walk_reason number (walk_fault (graph_of p) c.walk))
    (first_fault (retraced_reason number c.retraced (cost_above (graph_of p) c))
    (cuts_reason number (cuts_fault (graph_of p) c.retraced c.cuts))) both.0 in
    let fit : is_fitting_walk (graph_of p) c.walk ≡ true = (walks (graph_of p) c.walk p.kept).0
    (walk_none number (walk_fault (graph_of p) c.walk) first.0) in
    let is = All-head (IsCut d) p pieces each in
    let sewable = sews d p.lines c.walk keeps (front p.lines (concat (lines_of_pieces pieces)) below) (subst IsValidPiece is p.kept)
    (subst (λ (g : PieceValue). is_fitting_walk g c.walk ≡ true) is fit) in
    All-cons (λ (piece : PieceCert). AreDrawn d piece.walk) c certs
    (along d p c.walk (front p.lines (concat (lines_of_pieces pieces)) below) sewable.there)
    (all_along d keeps sews walks pieces certs (number + 1) (behind p.lines (concat (lines_of_pieces pieces)) below)
    (All-tail (IsCut d) p pieces each) (omega (arith, long)) both.1)
  where
    front : (xs ys : List ℕ) → All (λ line. line < length d.lines) (xs ++ ys) → All (λ line. line < length d.lines) xs
    front [] ys all = All-nil (λ line. line < length d.lines)
    front (x ∷ xs) ys all =
        All-cons (λ line. line < length d.lines) x xs (All-head (λ line. line < length d.lines) x (xs ++ ys) all)
        (front xs ys (All-tail (λ line. line < length d.lines) x (xs ++ ys) all))

    behind : (xs ys : List ℕ) → All (λ line. line < length d.lines) (xs ++ ys) → All (λ line. line < length d.lines) ys
    behind [] ys all = all
    behind (x ∷ xs) ys all = behind xs ys (All-tail (λ line. line < length d.lines) x (xs ++ ys) all)

-- certificates without a fault of a piece have walks along the drawing's lines
pub drawn_right : (d : DrawingValue) (pieces : List Piece) (certs : List PieceCert) → KeepsDrawingLimits d → FittingWalksAreSewable
    → WalkFaultsAreExact → ArePiecesOf d pieces → count_reason (length certs) (length pieces) ≡ None
    → pieces_reason 1 (map graph_of pieces) certs ≡ None → AllDrawn d certs
drawn_right d pieces certs keeps sews walks cut count none = grind (arith, nat_tests, all_along, count_none)

-- a drawing has few pieces
pub pieces_few : (d : DrawingValue) (pieces : List Piece) → KeepsDrawingLimits d → PiecesKeepLimits → ArePiecesOf d pieces
    → length pieces ≤ 1024
pieces_few d pieces keeps limits cut =
    let within : ArePiecesWithin d (lines_of_pieces pieces) = limits d (lines_of_pieces pieces) keeps cut.are in
    omega (arith, within.count, length-map pieces (λ (p : Piece). p.lines))

-- the verdict over the pieces of a drawing
module _ (walks : WalkFaultsAreExact) (cuts : CutFaultsAreExact) (bounds : BoundsWalks) (proves : ProvesLeast) (d : DrawingValue)
    (pieces : List (List ℕ)) (design : DesignValue) (certs : List PieceCert) (are : ArePieces d pieces)
    (kept : All IsValidPiece (map (piece_graph d) pieces)) where
  abbrev graphs : List PieceValue
  graphs = map (piece_graph d) pieces

  abbrev later : Option Reason
  later = first_fault (pieces_reason 1 (map (piece_graph d) pieces) certs) (acts_reason (difference_of d design certs))

  yes_none : (r : Option Reason) → verdict_of_reason r ≡ verdict.Yes → r ≡ None
  yes_none None is = refl
  yes_none (Some wrong) is = absurd (cc)

  each : reason_of d graphs design certs ≡ None → AllZip IsCorrectPieceCert graphs certs
  each is =
      let first = both_none (count_reason (length certs) (length graphs)) later is in
      let second = both_none (pieces_reason 1 graphs certs) (acts_reason (difference_of d design certs)) first.1 in
      pieces_right walks cuts bounds graphs certs 1 kept (count_none (length certs) (length graphs) first.0) second.0

  right : reason_of d graphs design certs ≡ None → IsCorrectRoute d pieces design certs
  right is =
      let first = both_none (count_reason (length certs) (length graphs)) later is in
      let second = both_none (pieces_reason 1 graphs certs) (acts_reason (difference_of d design certs)) first.1 in
      record {
        each = over_lines (piece_graph d) IsCorrectPieceCert pieces certs (each is);
        sews = no_difference 1 (acts_without_numbers (acts_of design)) (sewn_acts (runs_of d (walks_of certs)))
            (acts_none (difference_of d design certs) second.1);
      }

  no_reason : IsCorrectRoute d pieces design certs → reason_of d graphs design certs ≡ None
  no_reason all =
      let told = pieces_told walks cuts graphs certs 1 kept (over_graphs (piece_graph d) IsCorrectPieceCert pieces certs all.each) in
      let same : difference_of d design certs ≡ None = rw all.sews (none_with_itself 1 (sewn_acts (runs_of d (walks_of certs)))) in
      rw (number_found (length certs) (length graphs) told.0, told.1, same) refl

  pub verdict_over : IsVerdictOver d pieces design certs (verdict_of d pieces design certs)
  verdict_over = record {
    pieces_are = are;
    is = refl;
    exact = (
      λ said. right (yes_none (reason_of d graphs design certs) said),
      λ all. ap (λ r. verdict_of_reason r) (no_reason all),
    );
    least = λ said. over_lines (piece_graph d) (λ p cert. IsLeastWalk p cert.walk) pieces certs
        (least_of proves graphs certs kept (each (yes_none (reason_of d graphs design certs) said)));
  }

-- the verdict by the first reason is that over the pieces of the drawing
pub verdict_right : (d : DrawingValue) (pieces : List Piece) (design : DesignValue) (certs : List PieceCert) (found : Option Reason)
    (given : Verdict) → WalkFaultsAreExact → CutFaultsAreExact → BoundsWalks → ProvesLeast → ArePiecesOf d pieces
    → found ≡ reason_of d (map graph_of pieces) design certs → given ≡ verdict_of_reason found
    → IsVerdictOver d (lines_of_pieces pieces) design certs given
verdict_right d pieces design certs found given walks cuts bounds proves cut found_is given_is =
    let same = graphs_are d pieces cut.each in
    subst (λ (v : Verdict). IsVerdictOver d (lines_of_pieces pieces) design certs v)
    (sym (given_is ∙ ap (λ r. verdict_of_reason r) found_is
    ∙ ap (λ (gs : List PieceValue). verdict_of_reason (reason_of d gs design certs)) same))
    (verdict_over walks cuts bounds proves d (lines_of_pieces pieces) design certs cut.are
    (subst (All IsValidPiece) same (graphs_kept pieces)))

-- a correct route is judged yes
pub correct_is_yes : WalkFaultsAreExact → CutFaultsAreExact → BoundsWalks → ProvesLeast → PiecesAreValid → CorrectRoutesAreAccepted
correct_is_yes walks cuts bounds proves valid d pieces design certs keeps are all =
    let kept = All-over (piece_graph d) pieces (valid d pieces keeps are) in
    let over = verdict_over walks cuts bounds proves d pieces design certs are kept in
    record {
      pieces = pieces;
      is = subst (λ (v : Verdict). IsVerdictOver d pieces design certs v) (over.exact.1 all) over;
    }
  where
    All-over : (f : List ℕ → PieceValue) (pieces : List (List ℕ)) → All (λ lines. IsValidPiece (f lines)) pieces
        → All IsValidPiece (map f pieces)
    All-over f [] all = All-nil IsValidPiece
    All-over f (lines ∷ pieces) all =
        All-cons IsValidPiece (f lines) (map f pieces) (All-head (λ lines. IsValidPiece (f lines)) lines pieces all)
        (All-over f pieces (All-tail (λ lines. IsValidPiece (f lines)) lines pieces all))
