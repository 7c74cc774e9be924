-- A design and certificates are judged yes exactly where they are least redwork.
use Rattle.std.proofs.Common.{◌≡◌, ◌≤◌, ◌<◌, ℕ, ◌+◌, true, List, [], ◌∷◌, ◌++◌, length, map, All, sum_by, arith, refl}
use Rattle.std.proofs.lemmas.List.Sums.{sum_by-cons}
use Rattle.route_verdict.proofs.Names.{All-cons, All-head, All-nil, All-tail, AllZip, concat, PieceCert, Point, Pass, DrawingValue, KeepsDrawingLimits, PiecesAreValid, piece_graph, IsLeastWalk, is_fitting_walk, walk_cost, FittingWalksAreSewable, IsValidPiece, needles_of_walk, cost_of_line, IsLeastThread, CorrectRoutesAreAccepted, IsCorrectPieceCert, IsVerdict, PackingsAreOverLines, FittingWalksAreThreads, edge_between, junctions_of, edge_cost, edge_sum, IsSewable, IsLeastRedwork, YesIsLeastRedwork}
use Rattle.route_verdict.specs.declared.verdict.Verdict.TheVariants as verdict

-- the cost of a piece is that of its lines
lines_cost : (d : DrawingValue) (js : List Point) (lines : List ℕ)
    → edge_sum edge_cost (map (edge_between d js) lines) ≡ sum_by (cost_of_line d) lines
lines_cost d js [] = refl
lines_cost d js (line ∷ lines) = omega (arith, lines_cost d js lines, sum_by-cons (cost_of_line d) line lines)

-- a fitting walk costs no more than another exactly where it has no more needle points
no_more : (d : DrawingValue) (lines : List ℕ) (walk other : List Pass) → IsSewable d lines walk → IsSewable d lines other
    → walk_cost (piece_graph d lines) walk ≤ walk_cost (piece_graph d lines) other
    → length (needles_of_walk d walk) ≤ length (needles_of_walk d other)
no_more d lines walk other one two less = omega (arith, one.penetrations, two.penetrations, less)

-- the thread of a correct certificate of a piece
module _ (threads : FittingWalksAreThreads) (sewable : FittingWalksAreSewable) (packings : PackingsAreOverLines) (d : DrawingValue)
    (keeps : KeepsDrawingLimits d) where
  least_thread : (lines : List ℕ) (cert : PieceCert) → All (λ line. line < length d.lines) lines → IsValidPiece (piece_graph d lines)
      → IsCorrectPieceCert (piece_graph d lines) cert → IsLeastWalk (piece_graph d lines) cert.walk → IsLeastThread d lines cert
  least_thread lines cert there kept right least =
      let sewn = sewable d lines cert.walk keeps there kept right.fitting in
      record {
        thread = (threads d lines cert.walk keeps there kept).0 right.fitting;
        least = λ other. λ thread. fewer other ((threads d lines other keeps there kept).1 thread) sewn;
        penetrations = counted (length (needles_of_walk d cert.walk)) (walk_cost (piece_graph d lines) cert.walk)
            (edge_sum edge_cost (map (edge_between d (junctions_of d lines)) lines)) (sum_by (cost_of_line d) lines) cert.retraced
            sewn.penetrations right.retraced (lines_cost d (junctions_of d lines) lines);
        packing = (packings d lines cert.cuts kept).0 right.packing;
        total = right.total;
      }
    where
      fewer : (other : List Pass) → is_fitting_walk (piece_graph d lines) other ≡ true → IsSewable d lines cert.walk
          → length (needles_of_walk d cert.walk) ≤ length (needles_of_walk d other)
      fewer other fit sewn = no_more d lines cert.walk other sewn (sewable d lines other keeps there kept fit) (least other fit)

      counted : (n w c s r : ℕ) → n ≡ w + 1 → w ≡ c + r → c ≡ s → n ≡ s + r + 1
      counted n w c s r one two three = omega arith

  correct_cert : (lines : List ℕ) (cert : PieceCert) → All (λ line. line < length d.lines) lines → IsValidPiece (piece_graph d lines)
      → IsLeastThread d lines cert → IsCorrectPieceCert (piece_graph d lines) cert
  correct_cert lines cert there kept thread =
      let fit = (threads d lines cert.walk keeps there kept).1 thread.thread in
      let sewn = sewable d lines cert.walk keeps there kept fit in
      record {
        fitting = fit;
        retraced = counted (length (needles_of_walk d cert.walk)) (walk_cost (piece_graph d lines) cert.walk)
            (edge_sum edge_cost (map (edge_between d (junctions_of d lines)) lines)) (sum_by (cost_of_line d) lines) cert.retraced
            sewn.penetrations thread.penetrations (lines_cost d (junctions_of d lines) lines);
        packing = (packings d lines cert.cuts kept).1 thread.packing;
        total = thread.total;
      }
    where
      counted : (n w c s r : ℕ) → n ≡ w + 1 → n ≡ s + r + 1 → c ≡ s → w ≡ c + r
      counted n w c s r one two three = omega arith

  -- the lines of the first piece are lines of the drawing, and those of the others
  front : (xs ys : List ℕ) → All (λ line. line < length d.lines) (xs ++ ys) → All (λ line. line < length d.lines) xs
  front [] ys all = All-nil (λ line. line < length d.lines)
  front (x ∷ xs) ys all =
      All-cons (λ line. line < length d.lines) x xs (All-head (λ line. line < length d.lines) x (xs ++ ys) all)
      (front xs ys (All-tail (λ line. line < length d.lines) x (xs ++ ys) all))

  behind : (xs ys : List ℕ) → All (λ line. line < length d.lines) (xs ++ ys) → All (λ line. line < length d.lines) ys
  behind [] ys all = all
  behind (x ∷ xs) ys all = behind xs ys (All-tail (λ line. line < length d.lines) x (xs ++ ys) all)

  least_threads : (pieces : List (List ℕ)) (certs : List PieceCert) → All (λ line. line < length d.lines) (concat pieces)
      → All (λ lines. IsValidPiece (piece_graph d lines)) pieces
      → AllZip (λ lines cert. IsCorrectPieceCert (piece_graph d lines) cert) pieces certs
      → AllZip (λ lines cert. IsLeastWalk (piece_graph d lines) cert.walk) pieces certs → AllZip (IsLeastThread d) pieces certs
  least_threads [] [] there kept right least = tt
  least_threads [] (cert ∷ certs) there kept right least = absurd right
  least_threads (lines ∷ pieces) [] there kept right least = absurd right
  least_threads (lines ∷ pieces) (cert ∷ certs) there kept right least = (
    least_thread lines cert (front lines (concat pieces) there)
        (All-head (λ lines. IsValidPiece (piece_graph d lines)) lines pieces kept) right.0 least.0,
    least_threads pieces certs (behind lines (concat pieces) there)
        (All-tail (λ lines. IsValidPiece (piece_graph d lines)) lines pieces kept) right.1 least.1,
  )

  correct_certs : (pieces : List (List ℕ)) (certs : List PieceCert) → All (λ line. line < length d.lines) (concat pieces)
      → All (λ lines. IsValidPiece (piece_graph d lines)) pieces → AllZip (IsLeastThread d) pieces certs
      → AllZip (λ lines cert. IsCorrectPieceCert (piece_graph d lines) cert) pieces certs
  correct_certs [] [] there kept all = tt
  correct_certs [] (cert ∷ certs) there kept all = absurd all
  correct_certs (lines ∷ pieces) [] there kept all = absurd all
  correct_certs (lines ∷ pieces) (cert ∷ certs) there kept all = (
    correct_cert lines cert (front lines (concat pieces) there)
        (All-head (λ lines. IsValidPiece (piece_graph d lines)) lines pieces kept) all.0,
    correct_certs pieces certs (behind lines (concat pieces) there)
        (All-tail (λ lines. IsValidPiece (piece_graph d lines)) lines pieces kept) all.1,
  )

pub yes_is_redwork : FittingWalksAreThreads → FittingWalksAreSewable → PackingsAreOverLines → PiecesAreValid → CorrectRoutesAreAccepted
    → YesIsLeastRedwork
yes_is_redwork threads sewable packings valid accepted d design certs keeps = (to, from)
  where
    to : IsVerdict d design certs verdict.Yes → IsLeastRedwork d design certs
    to is =
        let over = is.is in
        let right = over.exact.0 refl in
        record {
          pieces = is.pieces;
          pieces_are = over.pieces_are;
          threads = least_threads threads sewable packings d keeps is.pieces certs over.pieces_are.there
              (valid d is.pieces keeps over.pieces_are) right.each (over.least refl);
          sewn = right.sews;
        }

    from : IsLeastRedwork d design certs → IsVerdict d design certs verdict.Yes
    from is = accepted d is.pieces design certs keeps is.pieces_are (record {
      each = correct_certs threads sewable packings d keeps is.pieces certs is.pieces_are.there (valid d is.pieces keeps is.pieces_are)
          is.threads;
      sews = is.sewn;
    })
