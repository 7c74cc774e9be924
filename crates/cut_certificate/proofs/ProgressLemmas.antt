-- The states of the terminals, and the distances, from one moat to the next.
use Rattle.std.proofs.Common.{◌≡◌, ◌≢◌, ℕ, zero, suc, ◌+◌, ◌%◌, ◌<◌, ◌≤◌, List, [], ◌∷◌, Some, Vec, Global, length, All, AllPairs, true, get_or, replicate, slice_get, slice_set, arith, inl, inr, refl, sym, ◌∙◌, ap, subst}
use Rattle.cut_certificate.proofs.Names.{nat_tests, cases_eq, length-replicate, slice_get_within, Moat, AreLaminar, IsOddMoat, TerminalState, has_member, LiftInput, lift_input, IsProgress, HasRowsForMoats, IsNextMoat, AreDistancesFrom, IsProcessed, IsOutermost, surrounded, RowsValue, All-get_or, get_or_from_slice_get}
use Rattle.cut_certificate.specs.declared.terminal_state.TerminalState.TheVariants as stand
use Rattle.cut_certificate.proofs.LaminarLemmas.{apart_two, below, held_below, laminar, of_all}
use Rattle.cut_certificate.proofs.MoatLemmas.{Apart}
use Rattle.cut_certificate.proofs.MoatDistanceLemmas.{Finds}
use Rattle.cut_certificate.proofs.TerminalStateLemmas.{is_of, next_stands, one_at}

-- two moats at different indexes are apart
apart_at : (n : ℕ) (ms : List Moat) (i k : ℕ) (a b : Moat) → All (IsOddMoat n) ms → AllPairs AreLaminar ms → slice_get ms i ≡ Some a
    → slice_get ms k ≡ Some b → i < k → Apart a b
apart_at n ms i k a b odd l at_a at_b lt =
    let in_k = slice_get_within ms k b at_b in
    let in_i = slice_get_within ms i a at_a in
    let pair = l i k a lt in_k in
    apart_two n a b (subst (IsOddMoat n) (get_or_from_slice_get ms i a a at_a) (All-get_or (IsOddMoat n) ms i a in_i odd))
    (subst (IsOddMoat n) (get_or_from_slice_get ms k b a at_b) (All-get_or (IsOddMoat n) ms k a in_k odd))
    (subst (λ (x : Moat). AreLaminar x b) (get_or_from_slice_get ms i a a at_a)
    (subst (λ (x : Moat). AreLaminar (get_or ms i a) x) (get_or_from_slice_get ms k b a at_b) pair))

-- a processed moat that shares a terminal with the next one is smaller
smaller : (n : ℕ) (ms : List Moat) (index : ℕ) (s : Moat) → All (IsOddMoat n) ms → AllPairs AreLaminar ms → slice_get ms index ≡ Some s
    → (c : ℕ) (m : Moat) (t : ℕ) → slice_get ms c ≡ Some m → IsProcessed (length s.members) index c m → has_member m.members t ≡ true
    → has_member s.members t ≡ true → length m.members < length s.members
smaller n ms index s odd l at c m t at_m (inl less) in_m in_s = less
smaller n ms index s odd l at c m t at_m (inr as_many) in_m in_s =
    grind (arith, nat_tests, apart_at n ms c index m s odd l at_m at as_many.1)

-- what the next moat finds
pub finds : (rows : RowsValue) (size : ℕ) (moats : List Moat) (s : Moat) (index : ℕ) (stands : List TerminalState)
    (reaches : List (Vec ℕ Global)) → HasRowsForMoats rows size moats → slice_get moats index ≡ Some s
    → IsProgress (lift_input rows size moats) (length s.members) index stands reaches
    → Finds (lift_input rows size moats) s index stands reaches
finds rows size moats s index stands reaches can at progress =
    let odd = of_all (IsOddMoat (length rows.terminals)) moats s can.odd (is_of moats index s at) in
    record {
      laminar = laminar (length rows.terminals) moats can.odd can.laminar;
      at = at;
      smaller = smaller (length rows.terminals) moats index s can.odd can.laminar at;
      placed = λ t has. held_below (length rows.terminals) t s.members (below (length rows.terminals) s.members odd.below) has;
      some = grind (arith, nat_tests, odd.odd);
      progress = progress;
    }

-- each moat has an odd number of members
pub all_odd : (rows : RowsValue) (size : ℕ) (moats : List Moat) → HasRowsForMoats rows size moats → (i : ℕ) (m : Moat)
    → slice_get moats i ≡ Some m → length m.members % 2 ≡ 1
all_odd rows size moats can i m at = (of_all (IsOddMoat (length rows.terminals)) moats m can.odd (is_of moats i m at)).odd

never : (i : ℕ) (m : Moat) → length m.members % 2 ≡ 1 → IsProcessed 1 0 i m → ⊥
never i m odd (inl less) = omega arith
never i m odd (inr as_many) = omega (arith, as_many.1)

all_free : (n t : ℕ) → t < n → slice_get (replicate n stand.Free) t ≡ Some stand.Free
all_free zero t lt = absurd (omega arith)
all_free (suc n) zero lt = refl
all_free (suc n) (suc t) lt = all_free n t (omega arith)

all_stand_free : (g : LiftInput) (reaches : List (Vec ℕ Global))
    → ((i : ℕ) (m : Moat) → slice_get g.moats i ≡ Some m → length m.members % 2 ≡ 1)
    → length reaches ≡ length g.moats → IsProgress g 1 0 (replicate g.places stand.Free) reaches
all_stand_free g reaches odd beside = record {
  standing = record {
    sized = length-replicate g.places stand.Free;
    free = λ t is i m at done. absurd (never i m (odd i m at) done);
    first = λ t c is. absurd (no_first t c is);
    held = λ t lt. inl (all_free g.places t lt);
  };
  beside = beside;
  made = λ i m v at done there. absurd (never i m (odd i m at) done);
}
  where
    free_is_none : (c : ℕ) → Some stand.Free ≡ Some (stand.First c) → ⊥
    free_is_none c h = cc

    no_first : (t c : ℕ) → slice_get (replicate g.places stand.Free) t ≡ Some (stand.First c) → ⊥
    no_first t c is =
        let lt = slice_get_within (replicate g.places stand.Free) t (stand.First c) is in
        free_is_none c (sym (all_free g.places t (omega (arith, length-replicate g.places stand.Free))) ∙ is)

-- before the first moat
pub none_yet : (rows : RowsValue) (size : ℕ) (moats : List Moat) (stands : List TerminalState) (reaches : List (Vec ℕ Global))
    → HasRowsForMoats rows size moats → stands ≡ replicate (length rows.terminals) stand.Free → length reaches ≡ length moats
    → IsProgress (lift_input rows size moats) 1 0 stands reaches
none_yet rows size moats stands reaches can are beside =
    subst (λ (ss : List TerminalState). IsProgress (lift_input rows size moats) 1 0 ss reaches) (sym are)
    (all_stand_free (lift_input rows size moats) reaches (all_odd rows size moats can) beside)

put_here : (xs : List (Vec ℕ Global)) (i : ℕ) (v : Vec ℕ Global) → i < length xs → slice_get (slice_set xs i v) i ≡ Some v
put_here [] i v lt = absurd (omega arith)
put_here (x ∷ xs) zero v lt = refl
put_here (x ∷ xs) (suc i) v lt = put_here xs i v (omega arith)

put_other : (xs : List (Vec ℕ Global)) (i k : ℕ) (v : Vec ℕ Global) → k ≢ i → slice_get (slice_set xs i v) k ≡ slice_get xs k
put_other [] i k v other = refl
put_other (x ∷ xs) zero zero v other = absurd (other refl)
put_other (x ∷ xs) zero (suc k) v other = refl
put_other (x ∷ xs) (suc i) zero v other = refl
put_other (x ∷ xs) (suc i) (suc k) v other = put_other xs i k v (λ same. other (ap suc same))

put_length : (xs : List (Vec ℕ Global)) (i : ℕ) (v : Vec ℕ Global) → length (slice_set xs i v) ≡ length xs
put_length [] i v = refl
put_length (x ∷ xs) zero v = refl
put_length (x ∷ xs) (suc i) v = ap suc (put_length xs i v)

same_reach : (v w : Vec ℕ Global) → Some v ≡ Some w → v ≡ w
same_reach v w h = cc

-- after the next moat
pub next_progress : (g : LiftInput) (s : Moat) (index : ℕ) (stands : List TerminalState) (reaches : List (Vec ℕ Global)) (v : Vec ℕ Global)
    → Finds g s index stands reaches → AreDistancesFrom g s v.items
    → IsProgress g (length s.members) (index + 1) (surrounded stands s.members index) (slice_set reaches index v)
next_progress g s index stands reaches v f is = record {
  standing = next_stands g.moats g.places index s stands f.laminar f.at f.some f.placed f.progress.standing;
  beside = put_length reaches index v ∙ f.progress.beside;
  made = made;
}
  where
    made : (i : ℕ) (m : Moat) (w : Vec ℕ Global) → slice_get g.moats i ≡ Some m → IsProcessed (length s.members) (index + 1) i m
        → slice_get (slice_set reaches index v) i ≡ Some w → AreDistancesFrom g m w.items
    made i m w at done there = elim (cases_eq i index) [
      | inl same ↦
          let lt = slice_get_within g.moats index s f.at in
          let here = put_here reaches index v (omega (arith, f.progress.beside)) in
          let value : v ≡ w = same_reach v w (sym here ∙ subst (λ (k : ℕ). slice_get (slice_set reaches index v) k ≡ Some w) same there) in
          let moat : s ≡ m = one_at g.moats index s m f.at (subst (λ (k : ℕ). slice_get g.moats k ≡ Some m) same at) in
          subst (λ (x : Moat). AreDistancesFrom g x w.items) moat (subst (λ (x : Vec ℕ Global). AreDistancesFrom g s x.items) value is)
      | inr other ↦ f.progress.made i m w at (before i m other done) (sym (put_other reaches index i v other) ∙ there)
    ]
      where
        before : (i : ℕ) (m : Moat) → i ≢ index → IsProcessed (length s.members) (index + 1) i m → IsProcessed (length s.members) index i m
        before i m other (inl less) = inl less
        before i m other (inr as_many) = inr (as_many.0, not_last i index other as_many.1)
          where
            not_last : (i k : ℕ) → i ≢ k → i < k + 1 → i < k
            not_last i k other lt = omega arith

-- what was gone through is the same
abbrev GoneAlike : List Moat → (members before more later : ℕ) → Type 0
GoneAlike ms members before more later = (i : ℕ) (m : Moat) → slice_get ms i ≡ Some m → IsProcessed members before i m
    → IsProcessed more later i m

-- so it is progress alike
progress_alike : (g : LiftInput) (members before more later : ℕ) (stands : List TerminalState) (reaches : List (Vec ℕ Global))
    → GoneAlike g.moats members before more later → GoneAlike g.moats more later members before → IsProgress g members before stands reaches
    → IsProgress g more later stands reaches
progress_alike g members before more later stands reaches forth back progress = record {
  standing = record {
    sized = progress.standing.sized;
    free = λ t is i m at done. progress.standing.free t is i m at (back i m at done);
    first = λ t c is. outermost t t c (progress.standing.first t c is);
    held = λ t lt. elim (progress.standing.held t lt) [
      | inl is ↦ inl is
      | inr p ↦ inr (p.0, p.1, p.2, outermost t p.0 p.1 p.3)
    ];
  };
  beside = progress.beside;
  made = λ i m v at done there. progress.made i m v at (back i m at done) there;
}
  where
    outermost : (t h c : ℕ) → IsOutermost g.moats members before t h c → IsOutermost g.moats more later t h c
    outermost t h c o = record {
      moat = o.moat;
      at = o.at;
      done = forth c o.moat o.at o.done;
      around = o.around;
      first = o.first;
      largest = λ i m at done in_m. o.largest i m at (back i m at done) in_m;
    }

-- a moat with another number of members is left out
pub skipped : (g : LiftInput) (members index : ℕ) (s : Moat) (stands : List TerminalState) (reaches : List (Vec ℕ Global))
    → slice_get g.moats index ≡ Some s
    → length s.members ≢ members → IsProgress g members index stands reaches → IsProgress g members (index + 1) stands reaches
skipped g members index s stands reaches at other progress = progress_alike g members index members (index + 1) stands reaches forth back
    progress
  where
    forth : GoneAlike g.moats members index members (index + 1)
    forth i m at_m (inl less) = inl less
    forth i m at_m (inr as_many) = inr (as_many.0, omega (arith, as_many.1))

    back : GoneAlike g.moats members (index + 1) members index
    back i m at_m (inl less) = inl less
    back i m at_m (inr as_many) = elim (cases_eq i index) [
      | inl same ↦
          let is = one_at g.moats index m s (subst (λ (k : ℕ). slice_get g.moats k ≡ Some m) same at_m) at in
          absurd (other (ap (λ (x : Moat). length x.members) (sym is) ∙ as_many.0))
      | inr apart ↦ inr (as_many.0, not_last i index apart as_many.1)
    ]
      where
        not_last : (i k : ℕ) → i ≢ k → i < k + 1 → i < k
        not_last i k other lt = omega arith

-- after the last moat with that number of members
pub next_size : (g : LiftInput) (members index : ℕ) (stands : List TerminalState) (reaches : List (Vec ℕ Global)) → members % 2 ≡ 1
    → ((i : ℕ) (m : Moat) → slice_get g.moats i ≡ Some m → length m.members % 2 ≡ 1) → length g.moats ≤ index
    → IsProgress g members index stands reaches → IsProgress g (members + 2) 0 stands reaches
next_size g members index stands reaches odd all last progress = progress_alike g members index (members + 2) 0 stands reaches forth back
    progress
  where
    forth : GoneAlike g.moats members index (members + 2) 0
    forth i m at (inl less) = inl (omega arith)
    forth i m at (inr as_many) = inl (omega (arith, as_many.0))

    back : GoneAlike g.moats (members + 2) 0 members index
    back i m at (inr as_many) = absurd (omega (arith, as_many.1))
    back i m at (inl less) = elim (cases_eq (length m.members) members) [
      | inl same ↦ let lt = slice_get_within g.moats i m at in inr (same, omega arith)
      | inr other ↦ inl (next_odd (length m.members) members other (all i m at) odd less)
    ]
      where
        next_odd : (i k : ℕ) → i ≢ k → i % 2 ≡ 1 → k % 2 ≡ 1 → i < k + 2 → i < k
        next_odd i k other odd_i odd_k lt = omega arith

-- the moat is the next one
pub is_next : (g : LiftInput) (s : Moat) (members index : ℕ) (stands seen : List TerminalState) (reaches read : List (Vec ℕ Global))
    → slice_get g.moats index ≡ Some s
    → length s.members ≡ members → seen ≡ stands → read ≡ reaches → IsProgress g members index stands reaches → IsNextMoat g s seen read
is_next g s members index stands seen reaches read at size is are progress = grind (arith, nat_tests)

-- after the next moat, as the code computes it
pub progress_on : (rows : RowsValue) (size : ℕ) (moats : List Moat) (s : Moat) (members index : ℕ) (stands new : List TerminalState)
    (reaches : List (Vec ℕ Global)) (v : Vec ℕ Global) → HasRowsForMoats rows size moats → slice_get moats index ≡ Some s
    → length s.members ≡ members → IsProgress (lift_input rows size moats) members index stands reaches
    → AreDistancesFrom (lift_input rows size moats) s v.items → new ≡ surrounded stands s.members index
    → IsProgress (lift_input rows size moats) members (index + 1) new (slice_set reaches index v)
progress_on rows size moats s members index stands new reaches v can at many progress is are =
    let g = lift_input rows size moats in
    let found = finds rows size moats s index stands reaches can at
    (subst (λ (k : ℕ). IsProgress (lift_input rows size moats) k index stands reaches) (sym many) progress) in
    subst (λ (ss : List TerminalState). IsProgress (lift_input rows size moats) members (index + 1) ss (slice_set reaches index v))
    (sym are)
    (subst (λ (k : ℕ). IsProgress (lift_input rows size moats) k (index + 1) (surrounded stands s.members index)
    (slice_set reaches index v)) many
    (next_progress (lift_input rows size moats) s index stands reaches v found is))
