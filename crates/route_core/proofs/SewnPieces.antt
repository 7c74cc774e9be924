-- Walks over pieces that can be sewn, and what is needed to sew them all.
use Rattle.std.proofs.Common.{◌≡◌, ◌≢◌, ◌≤◌, ◌<◌, ℕ, ◌+◌, ◌*◌, List, [], ◌∷◌, length, All, Contains, sum_by, arith, refl}
use Rattle.std.proofs.lemmas.Slice.Zip.{AllZip-long}
use Rattle.route_core.proofs.Names.{nat_tests, All-cons, All-contains, All-head, All-nil, All-tail, sum_by-cons, AllZip, PieceCert, HasCanonicalText, walks_of, Pass, Piece, graph_of, lines_of_pieces, DrawingValue, KeepsDrawingLimits, piece_graph, ArePieces, piece_cost, walk_cost, AreWritable, commands_after, runs_of, IsSewable, PiecesKeepLimits, AllDrawn, length-map, All-map, concat, AreNear, Run, run_of, ArePiecesWithin, GoesAlong, AreDrawn, commands_count, below_left, below_right}

-- what holds of the items of two lists, pair by pair, where it follows from what is known of each pair
pub zip_weaker : {A B : Type 0} (P Q : A → B → Type 0) → ((x : A) (y : B) → P x y → Q x y) → (xs : List A) (ys : List B)
    → AllZip P xs ys → AllZip Q xs ys
zip_weaker P Q each [] [] all = tt
zip_weaker P Q each [] (y ∷ ys) all = absurd all
zip_weaker P Q each (x ∷ xs) [] all = absurd all
zip_weaker P Q each (x ∷ xs) (y ∷ ys) all = (each x y all.0, zip_weaker P Q each xs ys all.1)

-- what holds of each item of the second list
zip_second : {A B : Type 0} (P : A → B → Type 0) (Q : B → Type 0) → ((x : A) (y : B) → P x y → Q y) → (xs : List A) (ys : List B)
    → AllZip P xs ys → All Q ys
zip_second P Q each [] [] all = All-nil Q
zip_second P Q each [] (y ∷ ys) all = absurd all
zip_second P Q each (x ∷ xs) [] all = absurd all
zip_second P Q each (x ∷ xs) (y ∷ ys) all = All-cons Q y ys (each x y all.0) (zip_second P Q each xs ys all.1)

-- what is known of the lines of pieces and their certificates, from what is known of each piece
pub each_piece : (d : DrawingValue) (R : Piece → PieceCert → Type 0) (P : List ℕ → PieceCert → Type 0)
    → ((p : Piece) (cert : PieceCert) → All (λ line. line < length d.lines) p.lines → graph_of p
    ≡ piece_graph d p.lines → R p cert → P p.lines cert) → (pieces : List Piece) (certs : List PieceCert)
    → All (λ line. line < length d.lines) (concat (lines_of_pieces pieces)) → All (λ (p : Piece). graph_of p ≡ piece_graph d p.lines) pieces
    → AllZip R pieces certs → AllZip P (lines_of_pieces pieces) certs
each_piece d R P one [] [] below each all = tt
each_piece d R P one [] (c ∷ certs) below each all = absurd all
each_piece d R P one (p ∷ pieces) [] below each all = absurd all
each_piece d R P one (p ∷ pieces) (c ∷ certs) below each all = (
  one p c (below_left (length d.lines) p.lines (concat (lines_of_pieces pieces)) below)
      (All-head (λ (p : Piece). graph_of p ≡ piece_graph d p.lines) p pieces each) all.0,
  each_piece d R P one pieces certs (below_right (length d.lines) p.lines (concat (lines_of_pieces pieces)) below)
      (All-tail (λ (p : Piece). graph_of p ≡ piece_graph d p.lines) p pieces each) all.1,
)

-- the walk of a piece can be sewn and printed, and costs no more than the lines twice
pub record Sewn (d : DrawingValue) (lines : List ℕ) (cert : PieceCert) : Type 0 where
  pub canonical : HasCanonicalText cert
  pub sewable : IsSewable d lines cert.walk
  pub below : All (λ line. line < length d.lines) lines
  pub costs : walk_cost (piece_graph d lines) cert.walk ≤ 2 * piece_cost (piece_graph d lines)

along_of : (d : DrawingValue) (pieces : List (List ℕ)) (certs : List PieceCert) → AllZip (Sewn d) pieces certs
    → AllZip GoesAlong pieces (walks_of certs)
along_of d [] [] all = tt
along_of d [] (c ∷ certs) all = absurd all
along_of d (p ∷ pieces) [] all = absurd all
along_of d (p ∷ pieces) (c ∷ certs) all =
    (record { some = some c.walk all.0.canonical.some; there = all.0.sewable.there }, along_of d pieces certs all.1)
  where
    some : (walk : List Pass) → walk ≢ [] → 1 ≤ length walk
    some [] filled = absurd (filled refl)
    some (p ∷ walk) filled = omega arith

near_of : (d : DrawingValue) (pieces : List (List ℕ)) (certs : List PieceCert) → AllZip (Sewn d) pieces certs
    → All (λ (run : Run). AreNear d.step run.needles) (runs_of d (walks_of certs))
near_of d pieces certs all =
    let near = zip_second (Sewn d) (λ (c : PieceCert). AreNear d.step (run_of d c.walk).needles) (λ p. λ c. λ sewn. sewn.sewable.near)
    pieces certs all in
    All-map (λ (run : Run). AreNear d.step run.needles) (run_of d) (walks_of certs)
    (All-map (λ (walk : List Pass). AreNear d.step (run_of d walk).needles) (λ (c : PieceCert). c.walk) certs near)

drawn_of : (d : DrawingValue) (p : List ℕ) (cert : PieceCert) → Sewn d p cert → AreDrawn d cert.walk
drawn_of d p cert sewn = drawn cert.walk sewn.sewable.there
  where
    drawn : (walk : List Pass) → All (λ (pass : Pass). Contains p pass.line) walk → AreDrawn d walk
    drawn [] there = All-nil (λ (pass : Pass). pass.line < length d.lines)
    drawn (q ∷ walk) there =
        All-cons (λ (pass : Pass). pass.line < length d.lines) q walk
        (All-contains (λ line. line < length d.lines) p q.line sewn.below (All-head (λ (pass : Pass). Contains p pass.line) q walk there))
        (drawn walk (All-tail (λ (pass : Pass). Contains p pass.line) q walk there))

-- the needles are at most twice the cost of the lines, and one for each piece
needles_few : (d : DrawingValue) (pieces : List (List ℕ)) (certs : List PieceCert) → AllZip (Sewn d) pieces certs
    → sum_by (λ (run : Run). length run.needles) (runs_of d (walks_of certs))
    ≤ 2 * sum_by (λ lines. piece_cost (piece_graph d lines)) pieces + length pieces
needles_few d [] [] all = omega arith
needles_few d [] (c ∷ certs) all = absurd all
needles_few d (p ∷ pieces) [] all = absurd all
needles_few d (p ∷ pieces) (c ∷ certs) all =
    grind (
      arith,
      nat_tests,
      needles_few d pieces certs all.1,
      sum_by-cons (λ (run : Run). length run.needles) (run_of d c.walk)
          (runs_of d (walks_of certs)),
      sum_by-cons (λ lines. piece_cost (piece_graph d lines)) p pieces,
    )

writable : (d : DrawingValue) → KeepsDrawingLimits d → (pieces : List (List ℕ)) (certs : List PieceCert) → ArePiecesWithin d pieces
    → AllZip (Sewn d) pieces certs → AreWritable d.step (runs_of d (walks_of certs))
writable d keeps pieces certs within all = grind (arith, nat_tests, near_of, length-map, AllZip-long, needles_few, along_of)

-- what is needed to sew the certificates, and what is then known
pub record Able (d : DrawingValue) (certs : List PieceCert) : Type 0 where
  pub drawn : AllDrawn d certs
  pub room : length (commands_after 0 (runs_of d (walks_of certs))) ≤ 1000000
  pub canonical : All HasCanonicalText certs
  pub writable : AreWritable d.step (runs_of d (walks_of certs))

pub able : (d : DrawingValue) → KeepsDrawingLimits d → PiecesKeepLimits → (pieces : List (List ℕ)) (certs : List PieceCert)
    → ArePieces d pieces → AllZip (Sewn d) pieces certs → Able d certs
able d keeps limits pieces certs are all =
    let drawn = zip_second (Sewn d) (λ (c : PieceCert). AreDrawn d c.walk) (drawn_of d) pieces certs all in
    let canonical = zip_second (Sewn d) HasCanonicalText (λ p. λ c. λ sewn. sewn.canonical) pieces certs all in
    grind (arith, nat_tests, writable, drawn, canonical, commands_count)
