-- The states of terminals after another moat was processed.
use Rattle.std.proofs.Common.{◌≡◌, ◌≢◌, ℕ, zero, suc, ◌+◌, ◌<◌, ◌≤◌, ◌⊎◌, List, [], ◌∷◌, Some, length, true, false, slice_get, slice_set, arith, inl, inr, refl, sym, ◌∙◌, ap, subst}
use Rattle.std.specs.Prelude.{◌==◌}
use Rattle.cut_certificate.proofs.Names.{nat_tests, both_ways, cases_Bool, cases_eq, eq-eqb, eqb-true, ne_eqb, or_cases, slice_get_within, slice_index, Moat, TerminalState, has_member, IsProcessed, IsUncovered, IsOutermost, covered, surrounded, AreTerminalStates, IsFirst}
use Rattle.cut_certificate.specs.declared.terminal_state.TerminalState.TheVariants as stand
use Rattle.cut_certificate.proofs.MoatLemmas.{IsOf, Laminar, related}

set_here : (xs : List TerminalState) (i : ℕ) (v : TerminalState) → i < length xs → slice_get (slice_set xs i v) i ≡ Some v
set_here [] i v lt = absurd (omega arith)
set_here (x ∷ xs) zero v lt = refl
set_here (x ∷ xs) (suc i) v lt = set_here xs i v (omega arith)

set_other : (xs : List TerminalState) (i k : ℕ) (v : TerminalState) → k ≢ i → slice_get (slice_set xs i v) k ≡ slice_get xs k
set_other [] i k v other = refl
set_other (x ∷ xs) zero zero v other = absurd (other refl)
set_other (x ∷ xs) zero (suc k) v other = refl
set_other (x ∷ xs) (suc i) zero v other = refl
set_other (x ∷ xs) (suc i) (suc k) v other = set_other xs i k v (λ same. other (ap suc same))

set_length : (xs : List TerminalState) (i : ℕ) (v : TerminalState) → length (slice_set xs i v) ≡ length xs
set_length [] i v = refl
set_length (x ∷ xs) zero v = refl
set_length (x ∷ xs) (suc i) v = ap suc (set_length xs i v)

covered_length : (stands : List TerminalState) (ts : List ℕ) → length (covered stands ts) ≡ length stands
covered_length stands [] = refl
covered_length stands (t ∷ ts) = covered_length (slice_set stands t stand.Inside) ts ∙ set_length stands t stand.Inside

-- a terminal that isn't covered keeps its state
covered_out : (stands : List TerminalState) (ts : List ℕ) (x : ℕ) → has_member ts x ≡ false
    → slice_get (covered stands ts) x ≡ slice_get stands x
covered_out stands [] x out = refl
covered_out stands (t ∷ ts) x out = elim (cases_eq x t) [
  | inl same ↦ absurd (both_ways (has_member (t ∷ ts) x) out (rw (eq-eqb x t same) refl))
  | inr other ↦
      let rest : has_member ts x ≡ false = rw (ne_eqb x t other) at out in
      covered_out (slice_set stands t stand.Inside) ts x rest ∙ set_other stands t x stand.Inside other
]

stays_inside : (stands : List TerminalState) (ts : List ℕ) (x : ℕ) → slice_get stands x ≡ Some stand.Inside
    → slice_get (covered stands ts) x ≡ Some stand.Inside
stays_inside stands [] x is = is
stays_inside stands (t ∷ ts) x is = stays_inside (slice_set stands t stand.Inside) ts x (elim (cases_eq x t) [
  | inl same ↦ subst (λ (y : ℕ). slice_get (slice_set stands t stand.Inside) y ≡ Some stand.Inside) (sym same)
      (set_here stands t stand.Inside (subst (λ (y : ℕ). y < length stands) same (slice_get_within stands x stand.Inside is)))
  | inr other ↦ set_other stands t x stand.Inside other ∙ is
])

-- a covered terminal is inside
covered_in : (stands : List TerminalState) (ts : List ℕ) (x : ℕ) → x < length stands → has_member ts x ≡ true
    → slice_get (covered stands ts) x ≡ Some stand.Inside
covered_in stands [] x lt h = absurd (both_ways false refl h)
covered_in stands (t ∷ ts) x lt h = elim (or_cases (x == t) (has_member ts x) h) [
  | inl same ↦ stays_inside (slice_set stands t stand.Inside) ts x
      (subst (λ (y : ℕ). slice_get (slice_set stands t stand.Inside) y ≡ Some stand.Inside) (sym (eqb-true x t same))
      (set_here stands t stand.Inside (subst (λ (y : ℕ). y < length stands) (eqb-true x t same) lt)))
  | inr there ↦ covered_in (slice_set stands t stand.Inside) ts x (omega (arith, set_length stands t stand.Inside)) there
]

-- the moat at an index is one of the moats
pub is_of : (ms : List Moat) (i : ℕ) (m : Moat) → slice_get ms i ≡ Some m → IsOf ms m
is_of [] i m at = cc
is_of (x ∷ xs) zero m at = grind (arith, nat_tests)
is_of (x ∷ xs) (suc i) m at = inr (is_of xs i m at)

-- and each of the moats has an index
pub index_of : (ms : List Moat) (m : Moat) → IsOf ms m → (i : ℕ) × (slice_get ms i ≡ Some m)
index_of [] m is = absurd is
index_of (x ∷ xs) m (inl same) = (0, ap (λ (y : Moat). Some y) (sym same))
index_of (x ∷ xs) m (inr is) = let p = index_of xs m is in (suc p.0, p.1)

pub one_at : (ms : List Moat) (i : ℕ) (a b : Moat) → slice_get ms i ≡ Some a → slice_get ms i ≡ Some b → a ≡ b
one_at ms i a b at_a at_b = cc

-- the moats gone through, with one more index, are those before and the one at that index
one_more_done : (ms : List Moat) (index : ℕ) (s : Moat) → slice_get ms index ≡ Some s → (i : ℕ) (m : Moat) → slice_get ms i ≡ Some m
    → IsProcessed (length s.members) (index + 1) i m → IsProcessed (length s.members) index i m ⊎ (m ≡ s)
one_more_done ms index s at i m at_m (inl less) = inl (inl less)
one_more_done ms index s at i m at_m (inr as_many) = grind (arith, nat_tests)

-- the largest moat around a terminal stays the largest, where the next moat doesn't hold the terminal
stays_outermost : (ms : List Moat) (index : ℕ) (s : Moat) (t h c : ℕ) → slice_get ms index ≡ Some s → has_member s.members t ≡ false
    → IsOutermost ms (length s.members) index t h c → IsOutermost ms (length s.members) (index + 1) t h c
stays_outermost ms index s t h c at out o = grind (arith, nat_tests)

-- the next moat is the largest around each of its terminals
is_outermost : (ms : List Moat) (index : ℕ) (s : Moat) (t h : ℕ) → slice_get ms index ≡ Some s → has_member s.members t ≡ true
    → has_member s.members h ≡ true → IsOutermost ms (length s.members) (index + 1) t h index
is_outermost ms index s t h at around first = grind (arith, nat_tests)

-- no processed moat holds a terminal of the next one and another terminal besides
not_across : (ms : List Moat) (index : ℕ) (s m : Moat) (i t h : ℕ) → Laminar ms → slice_get ms index ≡ Some s → slice_get ms i ≡ Some m
    → IsProcessed (length s.members) index i m → has_member m.members t ≡ true → has_member s.members t ≡ false
    → has_member m.members h ≡ true → has_member s.members h ≡ false
not_across ms index s m i t h l at at_m done has_t out has_h = grind (arith, nat_tests, cases_Bool, related, is_of)

-- the first member is one
pub first_held : (ts : List ℕ) → 1 ≤ length ts → has_member ts (slice_index ts 0) ≡ true
first_held [] some = absurd (omega arith)
first_held (t ∷ ts) some = rw (eq-eqb t t refl) refl

-- the states after the next moat
pub next_stands : (ms : List Moat) (places index : ℕ) (s : Moat) (stands : List TerminalState) → Laminar ms → slice_get ms index ≡ Some s
    → 1 ≤ length s.members → ((t : ℕ) → has_member s.members t ≡ true → t < places)
    → AreTerminalStates ms places (length s.members) index stands
    → AreTerminalStates ms places (length s.members) (index + 1) (surrounded stands s.members index)
next_stands ms places index s stands l at some below are = record {
  sized = set_length (covered stands s.members) first (stand.First index) ∙ covered_length stands s.members ∙ are.sized;
  free = free;
  first = firsts;
  held = held;
}
  where
    first : ℕ
    first = slice_index s.members 0

    in_s : has_member s.members (slice_index s.members 0) ≡ true
    in_s = first_held s.members some

    new : List TerminalState
    new = surrounded stands s.members index

    at_first : slice_get (surrounded stands s.members index) (slice_index s.members 0) ≡ Some (stand.First index)
    at_first =
        let lt = below (slice_index s.members 0) in_s in
        set_here (covered stands s.members) (slice_index s.members 0) (stand.First index)
        (omega (arith, covered_length stands s.members, are.sized))

    at_other : (t : ℕ) → t ≢ slice_index s.members 0 → has_member s.members t ≡ true
        → slice_get (surrounded stands s.members index) t ≡ Some stand.Inside
    at_other t other has =
        let lt = below t has in
        set_other (covered stands s.members) (slice_index s.members 0) t (stand.First index) other
        ∙ covered_in stands s.members t (omega (arith, are.sized)) has

    at_out : (t : ℕ) → has_member s.members t ≡ false → slice_get (surrounded stands s.members index) t ≡ slice_get stands t
    at_out t out =
        set_other (covered stands s.members) (slice_index s.members 0) t (stand.First index)
        (λ same. both_ways (has_member s.members t) out (subst (λ (x : ℕ). has_member s.members x ≡ true) (sym same) in_s))
        ∙ covered_out stands s.members t out

    no_free : (c : ℕ) → Some (stand.First c) ≡ Some stand.Free → ⊥
    no_free c h = cc

    no_inside : Some stand.Inside ≡ Some stand.Free → ⊥
    no_inside h = cc

    inside_no_first : (c : ℕ) → Some stand.Inside ≡ Some (stand.First c) → ⊥
    inside_no_first c h = cc

    same_index : (c d : ℕ) → Some (stand.First c) ≡ Some (stand.First d) → c ≡ d
    same_index c d h = cc

    free : (t : ℕ) → slice_get (surrounded stands s.members index) t ≡ Some stand.Free → IsUncovered ms (length s.members) (index + 1) t
    free t is i m at_m done = elim (cases_Bool (has_member s.members t)) [
      | inl has ↦ elim (cases_eq t (slice_index s.members 0)) [
        | inl same ↦ absurd (no_free index (sym at_first ∙ ap (slice_get (surrounded stands s.members index)) (sym same) ∙ is))
        | inr other ↦ absurd (no_inside (sym (at_other t other has) ∙ is))
      ]
      | inr out ↦ elim (one_more_done ms index s at i m at_m done) [
        | inl before ↦ are.free t (sym (at_out t out) ∙ is) i m at_m before
        | inr same ↦ subst (λ (x : Moat). has_member x.members t ≡ false) (sym same) out
      ]
    ]

    firsts : (t c : ℕ) → slice_get (surrounded stands s.members index) t ≡ Some (stand.First c)
        → IsOutermost ms (length s.members) (index + 1) t t c
    firsts t c is = elim (cases_Bool (has_member s.members t)) [
      | inl has ↦ elim (cases_eq t (slice_index s.members 0)) [
        | inl same ↦ subst (λ (k : ℕ). IsOutermost ms (length s.members) (index + 1) t t k)
            (same_index index c (sym at_first ∙ ap (slice_get (surrounded stands s.members index)) (sym same) ∙ is))
            (is_outermost ms index s t t at has has)
        | inr other ↦ absurd (inside_no_first c (sym (at_other t other has) ∙ is))
      ]
      | inr out ↦ stays_outermost ms index s t t c at out (are.first t c (sym (at_out t out) ∙ is))
    ]

    held : (t : ℕ) → t < places → (slice_get (surrounded stands s.members index) t ≡ Some stand.Free)
        ⊎ IsFirst ms (length s.members) (index + 1) t (surrounded stands s.members index)
    held t lt = elim (cases_Bool (has_member s.members t)) [
      | inl has ↦ inr (slice_index s.members 0, index, at_first, is_outermost ms index s t (slice_index s.members 0) at has in_s)
      | inr out ↦ elim (are.held t lt) [
        | inl is ↦ inl (at_out t out ∙ is)
        | inr p ↦ inr (
          p.0,
          p.1,
          at_out p.0 (not_across ms index s p.3.moat p.1 t p.0 l at p.3.at p.3.done p.3.around out p.3.first) ∙ p.2,
          stays_outermost ms index s t p.0 p.1 at out p.3,
        )
      ]
    ]
