-- The distances from the next moat, computed from those of the outermost moats inside it.
use Rattle.std.proofs.Common.{◌≡◌, ℕ, ◌+◌, ◌-◌, ◌*◌, ◌<◌, ◌≤◌, ◌⊎◌, min, List, [], ◌∷◌, Option, Some, None, Vec, Global, length, Bool, true, false, nat_lt, get_or, slice_get, arith, inl, inr, refl, sym, ◌∙◌, ap, subst}
use Rattle.std.specs.Prelude.{◌==◌, ◌||◌}
use Rattle.cut_certificate.proofs.Names.{nat_tests, and_from, and_parts, both_ways, cases_Bool, cases_lt, eq-eqb, eqb-true, lt-ltb, ltb-true, or_cases, slice_get_within, if◌then◌else◌, slice_index, Moat, TerminalState, has_member, LiftInput, distance_beyond, depth, is_inner, level, width_sum, IsProgress, AreDistancesFrom, lesser_of, lowered_distance, distance_from, IsProcessed, IsUncovered, IsOutermost, slice_get_cases}
use Rattle.cut_certificate.specs.declared.terminal_state.TerminalState.TheVariants as stand
use Rattle.cut_certificate.proofs.LevelLemmas.{level_by, level_most, level_some}
use Rattle.cut_certificate.proofs.MoatLemmas.{Apart, Inside, IsOf, Laminar, above, one_apart, related, widths_mono}
use Rattle.cut_certificate.proofs.TerminalStateLemmas.{first_held, index_of, is_of}

-- the level is the minimum of the distance and the width
pub level_is : (g : LiftInput) (s : Moat) (reach : List ℕ) (j : ℕ) → AreDistancesFrom g s reach → j < g.size
    → min s.width (slice_index reach j) ≡ level g s j
level_is g s reach j is in_j =
    let most : level g s j ≤ s.width = level_most g s j in
    let p = is.some j in_j in
    let by : level g s j ≤ 2 * g.least p.0 j - depth g s p.0 = level_by g s j p.0 p.1 in
    let near = p.2 in
    elim (cases_lt (level g s j) s.width) [
      | inl less ↦
          let q = level_some g s j less in
          let far = is.most j q.0 in_j q.1 in
          let e = q.2 in
          omega arith
      | inr full ↦ omega arith
    ]

none_wide : (test : Moat → Bool) (ms : List Moat) → ((m : Moat) → IsOf ms m → test m ≡ false) → width_sum test ms ≡ 0
none_wide test [] none = refl
none_wide test (m ∷ ms) none = rw (none m (inl refl), none_wide test ms (λ x is. none x (inr is))) refl

one_over : (p : Bool) (w a b : ℕ) → a ≤ b → w + a ≤ ((if p then w else 0) + b) + w
one_over true w a b le = omega arith
one_over false w a b le = omega arith

both_over : (p q : Bool) (v w a b : ℕ) → (q ≡ true → p ≡ true) → a ≤ b + v → (if q then w else 0) + a ≤ ((if p then w else 0) + b) + v
both_over true true v w a b f le = omega arith
both_over true false v w a b f le = omega arith
both_over false true v w a b f le = absurd (both_ways false refl (f refl))
both_over false false v w a b f le = omega arith

-- where the one test passes one moat more than the other, its width is the most that lies between the sums
widths_but : (p q : Moat → Bool) (s : Moat) (t : ℕ) (ms : List Moat) → Laminar ms → has_member s.members t ≡ true
    → ((m : Moat) → IsOf ms m → q m ≡ true → (p m ≡ true) ⊎ (m ≡ s)) → width_sum q ms ≤ width_sum p ms + s.width
widths_but p q s t [] l has f = omega arith
widths_but p q s t (x ∷ xs) l has f =
    elim (cases_Bool (q x)) [
      | inl passes ↦
          elim (f x (inl refl) passes) [
            | inl too ↦
                both_over (p x) (q x) s.width x.width (width_sum q xs) (width_sum p xs) (λ h. too)
                (widths_but p q s t xs l.1 has (λ m is. f m (inr is)))
            | inr same ↦
                let rest = widths_mono q p xs (λ m is h. elim (f m (inr is) h) [
                  | inl too ↦ too
                  | inr again ↦ absurd (twice m is (same ∙ sym again) (subst (λ (z : Moat). has_member z.members t ≡ true) (sym again) has))
                ])
                in
                let width : x.width ≡ s.width = ap (λ (z : Moat). z.width) same in
                let over = one_over (p x) x.width (width_sum q xs) (width_sum p xs) rest in
                rw passes (omega (arith, width, over))
          ]
      | inr misses ↦
          both_over (p x) (q x) s.width x.width (width_sum q xs) (width_sum p xs) (λ h. absurd (both_ways (q x) misses h))
          (widths_but p q s t xs l.1 has (λ m is. f m (inr is)))
    ]
  where
    twice : (m : Moat) → IsOf xs m → x ≡ m → has_member m.members t ≡ true → ⊥
    twice m is same in_m = no_self m in_m (subst (λ (z : Moat). Apart z m) same (one_apart x xs m l.0 is))
      where
        no_self : (m : Moat) → has_member m.members t ≡ true → Apart m m → ⊥
        no_self m in_m (inl d) = d t in_m in_m
        no_self m in_m (inr (inl i)) = omega (arith, i.0)
        no_self m in_m (inr (inr i)) = omega (arith, i.0)

-- what the next moat finds
pub record Finds (g : LiftInput) (s : Moat) (index : ℕ) (stands : List TerminalState) (reaches : List (Vec ℕ Global)) : Type 0 where
  pub laminar : Laminar g.moats
  pub at : slice_get g.moats index ≡ Some s
  pub smaller : (c : ℕ) (m : Moat) (t : ℕ) → slice_get g.moats c ≡ Some m → IsProcessed (length s.members) index c m
      → has_member m.members t ≡ true → has_member s.members t ≡ true → length m.members < length s.members
  pub placed : (t : ℕ) → has_member s.members t ≡ true → t < g.places
  pub some : 1 ≤ length s.members
  pub progress : IsProgress g (length s.members) index stands reaches

done_small : (g : LiftInput) (s : Moat) (index : ℕ) (k : Moat) → IsOf g.moats k → length k.members < length s.members
    → (i : ℕ) × (slice_get g.moats i ≡ Some k) × IsProcessed (length s.members) index i k
done_small g s index k is less = let p = index_of g.moats k is in (p.0, p.1, inl less)

-- no smaller moat is around a free terminal
depth_free : (g : LiftInput) (s : Moat) (index t : ℕ) → IsUncovered g.moats (length s.members) index t → depth g s t ≡ 0
depth_free g s index t free = none_wide (is_inner s t) g.moats none
  where
    none : (m : Moat) → IsOf g.moats m → is_inner s t m ≡ false
    none m is = elim (cases_Bool (is_inner s t m)) [
      | inl inner ↦
          let both = and_parts (has_member m.members t) (nat_lt (length m.members) (length s.members)) inner in
          let p = done_small g s index m is (ltb-true _ _ both.1) in
          absurd (both_ways (has_member m.members t) (free p.0 m p.1 p.2) both.0)
      | inr misses ↦ misses
    ]

-- the smaller moats around a terminal are the outermost processed one and those smaller than it
depth_first : (g : LiftInput) (s : Moat) (index t h c : ℕ) → Laminar g.moats → (o : IsOutermost g.moats (length s.members) index t h c)
    → depth g s t ≤ depth g o.moat t + o.moat.width
depth_first g s index t h c l o = widths_but (is_inner o.moat t) (is_inner s t) o.moat t g.moats l o.around either
  where
    either : (k : Moat) → IsOf g.moats k → is_inner s t k ≡ true → (is_inner o.moat t k ≡ true) ⊎ (k ≡ o.moat)
    either k is inner =
        let both = and_parts (has_member k.members t) (nat_lt (length k.members) (length s.members)) inner in
        let p = done_small g s index k is (ltb-true _ _ both.1) in
        let most = o.largest p.0 k p.1 p.2 both.0 in
        elim (cases_lt (length k.members) (length o.moat.members)) [
          | inl less ↦ inl (and_from (has_member k.members t) (nat_lt (length k.members) (length o.moat.members)) both.0 (lt-ltb _ _ less))
          | inr as_many ↦ inr (same both.0 (omega arith) (related g.moats k o.moat l is (is_of g.moats c o.moat o.at)))
        ]
      where
        same : has_member k.members t ≡ true → length k.members ≡ length o.moat.members → (k ≡ o.moat) ⊎ Apart k o.moat → k ≡ o.moat
        same in_k size (inl is) = is
        same in_k size (inr (inl d)) = absurd (d t in_k o.around)
        same in_k size (inr (inr (inl i))) = absurd (omega (arith, i.0))
        same in_k size (inr (inr (inr i))) = absurd (omega (arith, i.0))

-- a processed moat that shares a terminal with the next one is inside
inside_next : (g : LiftInput) (s : Moat) (index : ℕ) (stands : List TerminalState) (reaches : List (Vec ℕ Global))
    → Finds g s index stands reaches → (c : ℕ) (m : Moat) (t : ℕ) → slice_get g.moats c ≡ Some m → IsProcessed (length s.members) index c m
    → has_member m.members t ≡ true → has_member s.members t ≡ true → Inside m s
inside_next g s index stands reaches f c m t at done in_m in_s = grind (arith, nat_tests, related, is_of)

-- lowering doesn't raise
lowered_most : (g : LiftInput) (stands : List TerminalState) (reaches : List (Vec ℕ Global)) (j far : ℕ) (ts : List ℕ)
    → lowered_distance g stands reaches j far ts ≤ far
lowered_most g stands reaches j far [] = omega arith
lowered_most g stands reaches j far (t ∷ ts) =
    let rest = lowered_most g stands reaches j (lesser_of (distance_from g reaches t j (slice_get stands t)) far) ts in
    le_by _ _ _ rest (grind (arith, nat_tests))
  where
    le_by : (a b c : ℕ) → a ≤ b → b ≤ c → a ≤ c
    le_by a b c h k = omega arith

-- each distance is also at most that from each of the terminals
lowered_by : (g : LiftInput) (stands : List TerminalState) (reaches : List (Vec ℕ Global)) (j far : ℕ) (ts : List ℕ) (t x : ℕ)
    → has_member ts t ≡ true → distance_from g reaches t j (slice_get stands t) ≡ Some x → lowered_distance g stands reaches j far ts ≤ x
lowered_by g stands reaches j far [] t x has is = absurd (both_ways false refl has)
lowered_by g stands reaches j far (u ∷ ts) t x has is =
    elim (or_cases (t == u) (has_member ts t) has) [
      | inl same ↦
          let first : distance_from g reaches u j (slice_get stands u) ≡ Some x = subst
          (λ (y : ℕ). distance_from g reaches y j (slice_get stands y) ≡ Some x) (eqb-true t u same) is in
          let rest = lowered_most g stands reaches j (lesser_of (distance_from g reaches u j (slice_get stands u)) far) ts in
          (omega (arith, rest, one (distance_from g reaches u j (slice_get stands u)) first))
      | inr there ↦ lowered_by g stands reaches j (lesser_of (distance_from g reaches u j (slice_get stands u)) far) ts t x there is
    ]
  where
    same_number : (a b : ℕ) → Some a ≡ Some b → a ≡ b
    same_number a b h = cc

    no_way : None ≡ Some x → ⊥
    no_way h = cc

    one : (w : Option ℕ) → w ≡ Some x → lesser_of w far ≤ x
    one None h = absurd (no_way h)
    one (Some y) h = let same : y ≡ x = same_number y x h in omega arith

-- what is so of the start and of each way is so of what is left
lowered_some : (g : LiftInput) (stands : List TerminalState) (reaches : List (Vec ℕ Global)) (j far : ℕ) (ts : List ℕ) (Good : ℕ → Type 0)
    → Good far → ((t x : ℕ) → has_member ts t ≡ true → distance_from g reaches t j (slice_get stands t) ≡ Some x → Good x)
    → Good (lowered_distance g stands reaches j far ts)
lowered_some g stands reaches j far [] Good start step = start
lowered_some g stands reaches j far (u ∷ ts) Good start step =
    lowered_some g stands reaches j (lesser_of (distance_from g reaches u j (slice_get stands u)) far) ts Good
    (one (distance_from g reaches u j (slice_get stands u)) (λ x is. step u x (rw (eq-eqb u u refl) refl) is))
    (λ t x has is. step t x (behind t has) is)
  where
    least : (x y : ℕ) → (min x y ≡ x) ⊎ (min x y ≡ y)
    least x y = elim (cases_lt x y) [
      | inl less ↦ inl (omega arith)
      | inr more ↦ inr (omega arith)
    ]

    one : (w : Option ℕ) → ((x : ℕ) → w ≡ Some x → Good x) → Good (lesser_of w far)
    one None good = start
    one (Some x) good = elim (least x far) [
      | inl first ↦ subst Good (sym first) (good x refl)
      | inr second ↦ subst Good (sym second) start
    ]

    behind : (t : ℕ) → has_member ts t ≡ true → has_member (u ∷ ts) t ≡ true
    behind t has = go (t == u)
      where
        go : (b : Bool) → (b || has_member ts t) ≡ true
        go true = refl
        go false = has

same_number : (a b : ℕ) → Some a ≡ Some b → a ≡ b
same_number a b h = cc

-- a processed moat has its distances
reach_there : (g : LiftInput) (members index : ℕ) (stands : List TerminalState) (reaches : List (Vec ℕ Global)) (c : ℕ) (m : Moat)
    → IsProgress g members index stands reaches → slice_get g.moats c ≡ Some m → (v : Vec ℕ Global) × (slice_get reaches c ≡ Some v)
reach_there g members index stands reaches c m progress at = found (slice_get_cases reaches c).1
  where
    found : ((v : Vec ℕ Global) × (c < length reaches) × (slice_get reaches c ≡ Some v) × (get_or reaches c v ≡ v))
        ⊎ ((length reaches ≤ c) × (slice_get reaches c ≡ None)) → (v : Vec ℕ Global) × (slice_get reaches c ≡ Some v)
    found (inl p) = (p.0, p.2)
    found (inr none) = let lt = slice_get_within g.moats c m at in absurd (omega (arith, progress.beside, none.0))

-- no way is shorter than the junction is beyond the smaller moats
most_by : (g : LiftInput) (s : Moat) (index : ℕ) (stands : List TerminalState) (reaches : List (Vec ℕ Global)) (far j t : ℕ)
    → Finds g s index stands reaches → j < g.size → has_member s.members t ≡ true
    → lowered_distance g stands reaches j far s.members ≤ distance_beyond g s j t
most_by g s index stands reaches far j t f in_j has =
    elim (f.progress.standing.held t (f.placed t has)) [
      | inl is ↦
          let none : depth g s t ≡ 0 = depth_free g s index t (f.progress.standing.free t is) in
          let by = lowered_by g stands reaches j far s.members t (2 * g.least t j) has (ap (distance_from g reaches t j) is) in
          (omega (arith, none, by))
      | inr p ↦
          let o = p.3 in
          let inner = inside_next g s index stands reaches f p.1 o.moat t o.at o.done o.around has in
          let there = reach_there g (length s.members) index stands reaches p.1 o.moat f.progress o.at in
          let by = lowered_by g stands reaches j far s.members p.0 (slice_index there.0.items j - o.moat.width) (inner.1 p.0 o.first)
          (grind (arith, nat_tests, p.0, p.1, there.0, p.2, there.1)) in
          let near = (f.progress.made p.1 o.moat there.0 o.at o.done there.1).most j t in_j o.around in
          let over = depth_first g s index t p.0 p.1 f.laminar o in
          (omega (arith, over, near, by))
    ]

-- so far is a junction beyond the smaller moats around one of the members at least
abbrev IsFrom : LiftInput → Moat → ℕ → ℕ → Type 0
IsFrom g s j x = (t : ℕ) × (has_member s.members t ≡ true) × (distance_beyond g s j t ≤ x)

-- each way begins at a member
from_some : (g : LiftInput) (s : Moat) (index : ℕ) (stands : List TerminalState) (reaches : List (Vec ℕ Global)) (j t x : ℕ)
    (place : Option TerminalState) → Finds g s index stands reaches → j < g.size → has_member s.members t ≡ true
    → slice_get stands t ≡ place → distance_from g reaches t j place ≡ Some x → IsFrom g s j x
from_some g s index stands reaches j t x None f in_j has at is = absurd (grind (arith, nat_tests))
from_some g s index stands reaches j t x (Some stand.Inside) f in_j has at is = absurd (grind (arith, nat_tests))
from_some g s index stands reaches j t x (Some stand.Free) f in_j has at is = grind (arith, nat_tests)
from_some g s index stands reaches j t x (Some (stand.First c)) f in_j has at is =
    let o = f.progress.standing.first t c at in
    let inner = inside_next g s index stands reaches f c o.moat t o.at o.done o.around has in
    let there = reach_there g (length s.members) index stands reaches c o.moat f.progress o.at in
    let same = same_number (slice_index there.0.items j - o.moat.width) x
    (sym (grind (arith, nat_tests, there.0, there.1)) ∙ is) in
    let p = (f.progress.made c o.moat there.0 o.at o.done there.1).some j in_j in
    let over : depth g o.moat p.0 + o.moat.width ≤ depth g s p.0 = above g o.moat s p.0 (is_of g.moats c o.moat o.at) p.1 inner.0 in
    (p.0, inner.1 p.0 p.1, omega (arith, over, p.2, same))

-- the distances from the next moat
pub reach_found : (g : LiftInput) (s : Moat) (index : ℕ) (stands : List TerminalState) (reaches : List (Vec ℕ Global)) (reach : List ℕ)
    (far : ℕ) → Finds g s index stands reaches → length reach ≡ g.size → ((t j : ℕ) → t < g.places → j < g.size → 2 * g.least t j ≤ far)
    → ((j : ℕ) → j < g.size → slice_index reach j ≡ lowered_distance g stands reaches j far s.members) → AreDistancesFrom g s reach
reach_found g s index stands reaches reach far f sized low value = record {
  sized = sized;
  most = λ j t in_j has. subst (λ (x : ℕ). x ≤ distance_beyond g s j t) (sym (value j in_j))
      (most_by g s index stands reaches far j t f in_j has);
  some = λ j in_j. subst (IsFrom g s j) (sym (value j in_j))
      (lowered_some g stands reaches j far s.members (IsFrom g s j) (start j in_j)
      (λ t x has is. from_some g s index stands reaches j t x (slice_get stands t) f in_j has refl is));
}
  where
    start : (j : ℕ) → j < g.size → IsFrom g s j far
    start j in_j =
        let has = first_held s.members f.some in
        let most = low (slice_index s.members 0) j (f.placed (slice_index s.members 0) has) in_j in
        (slice_index s.members 0, has, less_by _ _ _ most)
      where
        less_by : (x d far : ℕ) → x ≤ far → x - d ≤ far
        less_by x d far le = omega arith
