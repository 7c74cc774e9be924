-- The cuts of one moat, level by level at which a junction enters.
use Rattle.std.proofs.Common.{◌≡◌, ℕ, zero, suc, ◌+◌, ◌-◌, ◌<◌, ◌≤◌, ◌⊎◌, min, List, [], ◌∷◌, ◌++◌, length, All, Bool, true, false, not, ◌==◌, ◌&&◌, nat_le, nat_lt, append_assoc, arith, inl, inr, refl, sym, ◌∙◌, ap, subst}
use Rattle.std.proofs.lemmas.List.{length_push}
use Rattle.cut_certificate.specs.MoatCuts.{IsLevelOf, levels_below}
use Rattle.cut_certificate.proofs.Names.{nat_tests, and_from, cases_lt, eq-eqb, le-leb, All-weaker, if◌then◌else◌, slice_index, Edge, is_strictly_increasing, Cut, crosses, has_member, load_on, AddsCuts, AreCutsTo, IsLevelCut, distance_between, members_from, All-nil, All-push, sum_by_push, all_greater}

none_before : (k h j : ℕ) (es : List ℕ) → j < k → has_member (members_from k h es) j ≡ false
none_before k h j [] lt = refl
none_before k h j (e ∷ es) lt = grind (arith, nat_tests, none_before (k + 1) h j es (omega arith))

holds_at : (k h i : ℕ) (es : List ℕ) → i < length es → has_member (members_from k h es) (k + i) ≡ nat_le (slice_index es i) h
holds_at k h i [] lt = absurd (omega arith)
holds_at k h zero (e ∷ es) lt = go (nat_le e h) refl
  where
    here : ((k + 0) == k) ≡ true
    here = eq-eqb (k + 0) k (omega arith)

    none : has_member (members_from (k + 1) h es) (k + 0) ≡ false
    none = none_before (k + 1) h (k + 0) es (omega arith)

    go : (b : Bool) → nat_le e h ≡ b
        → has_member (if b then k ∷ members_from (k + 1) h es else members_from (k + 1) h es) (k + 0) ≡ nat_le e h
    go true is = rw here (sym is)
    go false is = none ∙ sym is
holds_at k h (suc i) (e ∷ es) lt = grind (arith, nat_tests, holds_at (k + 1) h i es (omega arith))

-- a junction is a member exactly where its level is no more than the limit
pub member_at : (h i : ℕ) (es : List ℕ) → i < length es → has_member (members_from 0 h es) i ≡ nat_le (slice_index es i) h
member_at h i es lt = grind (arith, nat_tests, holds_at 0 h i es lt)

above_all : (low k h : ℕ) (es : List ℕ) → low < k → all_greater low (members_from k h es) ≡ true
above_all low k h [] lt = refl
above_all low k h (e ∷ es) lt = grind (arith, nat_tests, above_all low (k + 1) h es (omega arith))

-- the members rise
pub members_rise : (k h : ℕ) (es : List ℕ) → is_strictly_increasing (members_from k h es) ≡ true
members_rise k h [] = refl
members_rise k h (e ∷ es) = go (nat_le e h) (members_rise (k + 1) h es)
  where
    go : (b : Bool) → is_strictly_increasing (members_from (k + 1) h es) ≡ true
        → is_strictly_increasing (if b then k ∷ members_from (k + 1) h es else members_from (k + 1) h es) ≡ true
    go true rest = and_from (all_greater k (members_from (k + 1) h es)) (is_strictly_increasing (members_from (k + 1) h es))
        (above_all k (k + 1) h es (omega arith)) rest
    go false rest = rest

-- and are junctions
pub members_below : (n k h : ℕ) (es : List ℕ) → k + length es ≤ n → All (λ j. j < n) (members_from k h es)
members_below n k h [] fits = All-nil (λ j. j < n)
members_below n k h (e ∷ es) fits = grind (arith, nat_tests, members_below n (k + 1) h es (omega arith))

-- what one cut adds to an edge's load
step_load : (from next a b : ℕ) → from < next → (a ≤ from) ⊎ (next ≤ a) → (b ≤ from) ⊎ (next ≤ b)
    → distance_between (min from a) (min from b)
    + (if (if nat_le a from then not (nat_le b from) else nat_le b from) then next - from else 0)
    ≡ distance_between (min next a) (min next b)
step_load from next a b lt (inl p) (inl q) = rw (le-leb a from p, le-leb b from q) (omega arith)
step_load from next a b lt (inl p) (inr q) = grind (arith, nat_tests)
step_load from next a b lt (inr p) (inl q) = grind (arith, nat_tests)
step_load from next a b lt (inr p) (inr q) = grind (arith, nat_tests)

-- the weight of a cut of the junctions up to a level, where the edge crosses it
one_load : (e : Edge) (c : Cut) (from w : ℕ) (levels : List ℕ) → c.members ≡ members_from 0 from levels → c.weight ≡ w → e.a < length levels
    → e.b < length levels
    → (if crosses c.members e then c.weight else 0)
    ≡ (if (if nat_le (slice_index levels e.a) from then not (nat_le (slice_index levels e.b) from) else nat_le (slice_index levels e.b)
    from) then w else 0)
one_load e c from w levels is weight in_a in_b = grind (arith, nat_tests, member_at)

one_load_on : (cs : List Cut) (c : Cut) (e : Edge) → load_on (cs ++ c ∷ []) e ≡ load_on cs e + (if crosses c.members e then c.weight else 0)
one_load_on cs c e = sum_by_push (λ (cut : Cut). if crosses cut.members e then cut.weight else 0) cs c

-- fewer levels are below a lower top
fewer_below : (a b : ℕ) (ls : List ℕ) → a ≤ b → levels_below a ls ≤ levels_below b ls
fewer_below a b [] le = omega arith
fewer_below a b (l ∷ ls) le = omega (arith, one a b l le, fewer_below a b ls le)
  where
    one : (a b l : ℕ) → a ≤ b → (if nat_lt 0 l && nat_lt l a then 1 else 0) ≤ (if nat_lt 0 l && nat_lt l b then 1 else 0)
    one a b l le = grind (arith, nat_tests)

none_below : (ls : List ℕ) → levels_below 0 ls ≡ 0
none_below [] = refl
none_below (l ∷ ls) = grind (arith, nat_tests, none_below ls)

-- one more is below the next level
one_more_below : (from next j : ℕ) (ls : List ℕ) → 0 < from → from < next → j < length ls → slice_index ls j ≡ from
    → 1 + levels_below from ls ≤ levels_below next ls
one_more_below from next j [] some lt there is = absurd (omega (arith, there))
one_more_below from next zero (l ∷ ls) some lt there is = omega (
  arith,
  here from next l some lt is,
  fewer_below from next ls
      (omega (arith, lt)),
)
  where
    here : (from next l : ℕ) → 0 < from → from < next → l ≡ from
        → 1 + (if nat_lt 0 l && nat_lt l from then 1 else 0) ≤ (if nat_lt 0 l && nat_lt l next then 1 else 0)
    here from next l some lt is = grind (arith, nat_tests)
one_more_below from next (suc j) (l ∷ ls) some lt there is =
    omega (arith, one_level from next l (omega (arith, lt)), one_more_below from next j ls some lt (omega (arith, there)) is)
  where
    one_level : (a b l : ℕ) → a ≤ b → (if nat_lt 0 l && nat_lt l a then 1 else 0) ≤ (if nat_lt 0 l && nat_lt l b then 1 else 0)
    one_level a b l le = grind (arith, nat_tests)

-- the number of cuts, with one more up to the next level
few_next : (levels : List ℕ) (from next count : ℕ) → (from ≡ 0) ⊎ IsLevelOf levels from → from < next
    → count ≤ (if nat_lt 0 from then 1 else 0) + levels_below from levels
    → count + 1 ≤ (if nat_lt 0 next then 1 else 0) + levels_below next levels
few_next levels from next count (inl none) lt few = grind (arith, nat_tests, none_below)
few_next levels from next count (inr there) lt few = elim (cases_lt 0 from) [
  | inl some ↦
      let more = one_more_below from next there.0 levels some lt there.1 there.2 in
      grind (arith, nat_tests)
  | inr none ↦ grind (arith, nat_tests, none_below)
]

next_cut : (levels : List ℕ) (from next : ℕ) (cs : List Cut) (c : Cut) → AreCutsTo levels from cs → (from ≡ 0) ⊎ IsLevelOf levels from
    → from < next
    → ((j : ℕ) → j < length levels → (slice_index levels j ≤ from) ⊎ (next ≤ slice_index levels j))
    → c.members ≡ members_from 0 from levels → c.weight ≡ next - from → AreCutsTo levels next (cs ++ c ∷ [])
next_cut levels from next cs c made at lt gap is weight = record {
  loads = loads;
  total = omega (arith, sum_by_push (λ (cut : Cut). cut.weight) cs c, made.total);
  each = All-push (IsLevelCut levels next) cs c (All-weaker (IsLevelCut levels from) (IsLevelCut levels next) kept cs made.each)
      (record { limit = from; low = lt; heavy = omega arith; members = is });
  few = omega (arith, few_next levels from next (length cs) at lt made.few, length_push cs c);
}
  where
    loads : (e : Edge) → e.a < length levels → e.b < length levels
        → load_on (cs ++ c ∷ []) e ≡ distance_between (min next (slice_index levels e.a)) (min next (slice_index levels e.b))
    loads e in_a in_b =
        one_load_on cs c e
        ∙ ap (λ (x : ℕ). x + (if crosses c.members e then c.weight else 0)) (made.loads e in_a in_b)
        ∙ ap (λ (x : ℕ). distance_between (min from (slice_index levels e.a)) (min from (slice_index levels e.b)) + x)
        (one_load e c from (next - from) levels is weight in_a in_b)
        ∙ step_load from next (slice_index levels e.a) (slice_index levels e.b) lt (gap e.a in_a) (gap e.b in_b)

    kept : (d : Cut) → IsLevelCut levels from d → IsLevelCut levels next d
    kept d cut = record { limit = cut.limit; low = omega (arith, cut.low); heavy = cut.heavy; members = cut.members }

-- one more cut, up to the next level
pub next_cuts : (levels : List ℕ) (from next : ℕ) (old now new : List Cut) (c : Cut) → AddsCuts (AreCutsTo levels from) old now
    → (from ≡ 0) ⊎ IsLevelOf levels from → from < next → ((j : ℕ) → j < length levels → (slice_index levels j ≤ from)
    ⊎ (next ≤ slice_index levels j))
    → c.members ≡ members_from 0 from levels → c.weight ≡ next - from → new ≡ now ++ c ∷ [] → AddsCuts (AreCutsTo levels next) old new
next_cuts levels from next old now new c made at lt gap is weight pushed = record {
  more = made.more ++ c ∷ [];
  kind = next_cut levels from next made.more c made.kind at lt gap is weight;
  is = pushed ∙ ap (λ (l : List Cut). l ++ c ∷ []) made.is ∙ append_assoc old made.more (c ∷ []);
}

-- one of the first levels
abbrev IsEarlyLevel : List ℕ → (count level : ℕ) → Type 0
IsEarlyLevel levels count level = (j : ℕ) × (j < count) × (slice_index levels j ≡ level)

-- the next level so far is the width or one of the first levels, and stays so
pub same_level : (levels : List ℕ) (count next width new : ℕ) → new ≡ next → (next ≡ width) ⊎ IsEarlyLevel levels count next
    → (new ≡ width) ⊎ IsEarlyLevel levels (count + 1) new
same_level levels count next width new is (inl all) = inl (is ∙ all)
same_level levels count next width new is (inr at) = inr (at.0, omega (arith, at.1), at.2 ∙ sym is)

pub level_after : (levels : List ℕ) (count next width level new : ℕ) → level ≡ slice_index levels count → new ≡ min next level
    → (next ≡ width) ⊎ IsEarlyLevel levels count next → (new ≡ width) ⊎ IsEarlyLevel levels (count + 1) new
level_after levels count next width level new at is before = elim (cases_lt next level) [
  | inl less ↦ same_level levels count next width new (omega (arith, is, less)) before
  | inr more ↦ inr (count, omega arith, sym at ∙ (let e : level ≡ new = omega (arith, is, more) in e))
]

-- no level is between, with one more of them
pub gap_after : (levels : List ℕ) (from count next new : ℕ) → new ≤ next
    → (slice_index levels count ≤ from) ⊎ (new ≤ slice_index levels count)
    → ((j : ℕ) → j < count → (slice_index levels j ≤ from) ⊎ (next ≤ slice_index levels j))
    → (j : ℕ) → j < count + 1 → (slice_index levels j ≤ from) ⊎ (new ≤ slice_index levels j)
gap_after levels from count next new le here before j lt = elim (cases_lt j count) [
  | inl less ↦ elim (before j less) [ inl low ↦ inl low | inr high ↦ inr (omega (arith, le, high)) ]
  | inr more ↦ subst (λ (i : ℕ). (slice_index levels i ≤ from) ⊎ (new ≤ slice_index levels i))
      (let e : count ≡ j = omega (arith, lt, more) in e) here
]
