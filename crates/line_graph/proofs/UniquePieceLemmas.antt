-- A drawing has one list of pieces.
use Rattle.std.proofs.Common.{◌≡◌, ◌≢◌, ◌<◌, inl, inr, ℕ, zero, suc, List, [], ◌∷◌, length, All, AllPairs, Contains, arith, refl, sym, ◌∙◌, ap, subst}
use Rattle.line_graph.proofs.Names.{nat_tests, All-contains, AllPairs-from_increasing, concat, IsStrictlyIncreasing, DrawingValue, PiecesAreUnique, ArePieces, AreConnected, first_line, concat_has, Contains-append_cases, pairs_tail}
use Rattle.line_graph.proofs.LabelLemmas.{joined_back, joined_on}
use Rattle.line_graph.proofs.CallerLemmas.{firsts_rise}

-- what holds of all pairs holds of the first and each later one
pairs_head : {X : Type 0} (P : X → X → Type 0) (x : X) (xs : List X) (y : X) → AllPairs P (x ∷ xs) → Contains xs y → P x y
pairs_head P x xs y pairs (k, below, is) = subst (λ z. P x z) is (pairs 0 (suc k) y (omega arith) (omega (arith, below)))

-- items of which neither order is a pair are one
pub alike : {X : Type 0} (P : X → X → Type 0) (xs : List X) (x y : X) → AllPairs P xs → (P x y → ⊥) → (P y x → ⊥)
    → Contains xs x → Contains xs y → x ≡ y
alike P [] x y pairs never back (k, below, is) other = absurd (omega (arith, below))
alike P (z ∷ xs) x y pairs never back (zero, below, is) (zero, within, at) = sym is ∙ at
alike P (z ∷ xs) x y pairs never back (zero, below, is) (suc j, within, at) =
    absurd (never (subst (λ w. P w y) is (pairs_head P z xs y pairs (j, omega (arith, within), at))))
alike P (z ∷ xs) x y pairs never back (suc k, below, is) (zero, within, at) =
    absurd (back (subst (λ w. P w x) at (pairs_head P z xs x pairs (k, omega (arith, below), is))))
alike P (z ∷ xs) x y pairs never back (suc k, below, is) (suc j, within, at) =
    alike P xs x y (pairs_tail P z xs pairs) never back (k, omega (arith, below), is) (j, omega (arith, within), at)

-- the first items of lists that rise, each of which is in the other list
heads_same : {X : Type 0} (f : X → ℕ) (x y : X) (xs ys : List X) → AllPairs (λ a b. f a < f b) (x ∷ xs)
    → AllPairs (λ a b. f a < f b) (y ∷ ys) → Contains (y ∷ ys) x → Contains (x ∷ xs) y → x ≡ y
heads_same f x y xs ys up rise (zero, below, is) other = sym is
heads_same f x y xs ys up rise (suc k, below, is) (zero, within, at) = at
heads_same f x y xs ys up rise (suc k, below, is) (suc j, within, at) =
    let one : f x < f y = pairs_head (λ a b. f a < f b) x xs y up (j, omega (arith, within), at) in
    let two : f y < f x = pairs_head (λ a b. f a < f b) y ys x rise (k, omega (arith, below), is) in
    absurd (omega (arith, one, two))

-- a later item of a list that rises is a later one of the other list
later : {X : Type 0} (f : X → ℕ) (x y : X) (xs ys : List X) (n : X) → AllPairs (λ a b. f a < f b) (x ∷ xs) → x ≡ y → Contains xs n
    → Contains (y ∷ ys) n → Contains ys n
later f x y xs ys n up same has (zero, below, is) = grind (arith, nat_tests, pairs_head (λ a b. f a < f b) x xs n up has)
later f x y xs ys n up same has (suc k, below, is) = (k, omega (arith, below), is)

-- an item of the others is one of the list
behind : {X : Type 0} (x : X) (xs : List X) (n : X) → Contains xs n → Contains (x ∷ xs) n
behind x xs n (k, below, is) = (suc k, omega (arith, below), is)

-- lists that rise and have the same items are the same
lists_same : {X : Type 0} (f : X → ℕ) (xs ys : List X) → AllPairs (λ a b. f a < f b) xs → AllPairs (λ a b. f a < f b) ys
    → ((n : X) → Contains xs n → Contains ys n) → ((n : X) → Contains ys n → Contains xs n) → xs ≡ ys
lists_same f [] [] up rise to from = refl
lists_same f [] (y ∷ ys) up rise to from = let none = from y (0, omega arith, refl) in absurd (omega (arith, none.1))
lists_same f (x ∷ xs) [] up rise to from = let none = to x (0, omega arith, refl) in absurd (omega (arith, none.1))
lists_same f (x ∷ xs) (y ∷ ys) up rise to from =
    let same : x ≡ y = heads_same f x y xs ys up rise (to x (0, omega arith, refl)) (from y (0, omega arith, refl)) in
    let rest : xs ≡ ys = lists_same f xs ys (pairs_tail (λ a b. f a < f b) x xs up) (pairs_tail (λ a b. f a < f b) y ys rise)
    (λ n. λ has. later f x y xs ys n up same has (to n (behind x xs n has)))
    (λ n. λ has. later f y x ys xs n rise (sym same) has (from n (behind y ys n has))) in
    ap (λ z. z ∷ xs) same ∙ ap (λ zs. y ∷ zs) rest

-- the piece that a line is in
pub record IsAmong (pieces : List (List ℕ)) (line : ℕ) : Type 0 where
  pub piece : List ℕ
  pub there : Contains pieces piece
  pub has : Contains piece line

-- a line of all pieces is in one of them
pub among : (pieces : List (List ℕ)) (line : ℕ) → Contains (concat pieces) line → IsAmong pieces line
among [] line (k, below, is) = absurd (omega (arith, below))
among (piece ∷ pieces) line has = elim (Contains-append_cases piece (concat pieces) line has) [
  | inl here ↦ record { piece = piece; there = (0, omega arith, refl); has = here }
  | inr on ↦
      let rest = among pieces line on in
      record { piece = rest.piece; there = behind piece pieces rest.piece rest.there; has = rest.has }
]

-- a line of a piece is in the piece of another list that is connected to it
meets : (d : DrawingValue) (a b : List (List ℕ)) → ArePieces d a → ArePieces d b → (p q : List ℕ) → Contains a p → Contains b q
    → AreConnected d (first_line p) (first_line q) → (n : ℕ) → Contains p n → Contains q n
meets d a b one other p q in_a in_b across n has =
    let Joins : List ℕ → Type 0 = λ piece. All (AreConnected d (first_line piece)) piece in
    let below : n < length d.lines = All-contains (λ line. line < length d.lines) (concat a) n one.there (concat_has a p n in_a has) in
    let to : AreConnected d (first_line p) n = All-contains (AreConnected d (first_line p)) p n (All-contains Joins a p one.joined in_a)
    has in
    let is = among b n (other.covered n below) in
    let r : List ℕ = is.piece in
    let from : AreConnected d (first_line r) n = All-contains (AreConnected d (first_line r)) r n
    (All-contains Joins b r other.joined is.there) is.has in
    let beside : AreConnected d (first_line r) (first_line q) = joined_on d (first_line r) n (first_line q) from
    (joined_on d n (first_line p) (first_line q) (joined_back d (first_line p) n to) across) in
    let same : r ≡ q = alike (λ x y. AreConnected d (first_line x) (first_line y) → ⊥) b r q other.apart (λ never. never beside)
    (λ never. never (joined_back d (first_line r) (first_line q) beside)) is.there in_b in
    subst (λ (lines : List ℕ). Contains lines n) same is.has

-- pieces of two lists that are connected are equal
piece_same : (d : DrawingValue) (a b : List (List ℕ)) → ArePieces d a → ArePieces d b → (p q : List ℕ) → Contains a p → Contains b q
    → AreConnected d (first_line p) (first_line q) → p ≡ q
piece_same d a b one other p q in_a in_b across =
    lists_same (λ n. n) p q (AllPairs-from_increasing p (All-contains IsStrictlyIncreasing a p one.rising in_a))
    (AllPairs-from_increasing q (All-contains IsStrictlyIncreasing b q other.rising in_b))
    (meets d a b one other p q in_a in_b across)
    (meets d b a other one q p in_b in_a (joined_back d (first_line p) (first_line q) across))

-- a piece has its first line
begins : (piece : List ℕ) → piece ≢ [] → Contains piece (first_line piece)
begins [] filled = absurd (filled refl)
begins (n ∷ piece) filled = (0, omega arith, refl)

-- a piece of one list is one of the other
found : (d : DrawingValue) (a b : List (List ℕ)) → ArePieces d a → ArePieces d b → (p : List ℕ) → Contains a p → Contains b p
found d a b one other p in_a =
    let n : ℕ = first_line p in
    let has : Contains p n = begins p (All-contains (λ piece. piece ≢ []) a p one.filled in_a) in
    let below : n < length d.lines = All-contains (λ line. line < length d.lines) (concat a) n one.there (concat_has a p n in_a has) in
    let is = among b n (other.covered n below) in
    let q : List ℕ = is.piece in
    let to : AreConnected d (first_line q) n = All-contains (AreConnected d (first_line q)) q n
    (All-contains (λ piece. All (AreConnected d (first_line piece)) piece) b q other.joined is.there) is.has in
    let same : p ≡ q = piece_same d a b one other p q in_a is.there (joined_back d (first_line q) n to) in
    subst (λ (lines : List ℕ). Contains b lines) (sym same) is.there

-- so both lists have the same pieces in the same order
pub pieces_are_one : PiecesAreUnique
pieces_are_one d a b one other = lists_same first_line a b (firsts_rise a one.ordered) (firsts_rise b other.ordered)
    (found d a b one other) (found d b a other one)
