-- A text has more bytes than any list of its certificate has items.
use Rattle.std.proofs.Common.{◌≡◌, ℕ, ◌+◌, ◌<◌, ◌≤◌, List, [], ◌∷◌, ◌++◌, length, get_or, codes, decimal, ap, arith}
use Rattle.certificate_text.proofs.Names.{nat_tests, flat_map, Pass, PieceCert, Cut, certificate_text, cut_line_text, pass_text, passes_text, piece_text, newline, AreFew, HasFewItems, length-append, length-flat_map-take}
use Rattle.certificate_text.proofs.NumberWords.{pass_spaced}

-- each item has a byte at least
count_most : {X : Type 0} (f : X → List ℕ) (xs : List X) → ((x : X) → 1 ≤ length (f x)) → length xs ≤ length (flat_map f xs)
count_most f [] some = omega arith
count_most f (x ∷ xs) some =
    omega (arith, some x, count_most f xs some, length-append (f x) (flat_map f xs))

-- no item has more bytes than all
one_most : {X : Type 0} (f : X → List ℕ) (xs : List X) (i : ℕ) (d : X) → i < length xs → length (f (get_or xs i d)) ≤ length (flat_map f xs)
one_most f xs i d there = omega (arith, length-flat_map-take f xs i d there)

-- the text of a pass has a byte
pass_some : (pass : Pass) → 1 ≤ length (pass_text pass)
pass_some pass = omega (arith, ap length (pass_spaced pass))

-- and that of a cut
cut_some : (cut : Cut) → 1 ≤ length (cut_line_text cut)
cut_some cut = omega arith

-- and that of a piece
piece_some : (piece : PieceCert) → 1 ≤ length (piece_text piece)
piece_some piece = omega arith

-- the first part is no longer than all parts together
first_most : (before after : List ℕ) → length before ≤ length (before ++ after)
first_most before after = omega (arith, length-append before after)

-- nor is what follows it
last_most : (before after : List ℕ) → length after ≤ length (before ++ after)
last_most before after = omega (arith, length-append before after)

-- the members of a cut
cut_few : (limit : ℕ) (cut : Cut) → length (cut_line_text cut) ≤ limit → length cut.members ≤ limit
cut_few limit cut within = grind (arith, nat_tests, count_most, first_most, last_most)

-- the lists of a piece are short where its text is
piece_few : (piece : PieceCert) → length (piece_text piece) ≤ 67108864 → HasFewItems piece
piece_few piece within =
    let passes : List ℕ = passes_text piece.walk in
    let cuts : List ℕ = flat_map cut_line_text piece.cuts in
    let all : length passes + length cuts ≤ 67108864 = omega (
      arith,
      within,
      length-append passes (newline ++ cuts),
      last_most (decimal piece.retraced) (newline ++ (codes "walk" ++ (passes ++ (newline ++ cuts)))),
    ) in
    record {
      passes = omega (arith, all, count_most pass_text piece.walk pass_some);
      cuts = omega (arith, all, count_most cut_line_text piece.cuts cut_some);
      members = λ k d there. omega (
        arith,
        cut_few 67108864 (get_or piece.cuts k d) (omega (arith, all, one_most cut_line_text piece.cuts k d there)),
      );
    }

-- and all pieces
pub are_few : (pieces : List PieceCert) (text : List ℕ) → text ≡ certificate_text pieces → length text ≤ 67108864 → AreFew pieces
are_few pieces text is within =
    let texts : List ℕ = flat_map piece_text pieces in
    let all : length texts ≤ 67108864 = omega (arith, within, ap length is, first_most texts (codes "end" ++ newline)) in
    record {
      few = omega (arith, all, count_most piece_text pieces piece_some);
      each = λ k d there. piece_few (get_or pieces k d) (omega (arith, all, one_most piece_text pieces k d there));
    }
