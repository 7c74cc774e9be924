-- Moats and their members by counts.
use Rattle.std.proofs.Common.{◌≡◌, ◌≢◌, ℕ, ◌+◌, ◌*◌, ◌%◌, ◌≤◌, inl, inr, zero, suc, List, [], ◌∷◌, ◌++◌, length, arith, refl, sym, subst, ◌∙◌, Bool, true, false, cond, eqb, ◌||◌}
use Rattle.blossom_match.proofs.Names.{nat_tests, sum_by-cons, lt-ltb, Each, apart, count, one_if_equal, TableValue, entry, pairs_cost, crosses_moat, pair_ends_at, moat_holds, moat_load, width_of, AreLaminar, moat_of_set, IsOddMoatIn, AreMoatsIn, Moat, Pair, each-append, each-map, some_member, by_count, list_any, sum_by-append, pairs-append}

pub true_false : true ≡ false → ⊥
true_false e = cc

any_case : (b r : Bool) (x y : ℕ) (n : ℕ) → eqb x y ≡ b → 1 ≤ cond b 1 0 + n → (1 ≤ n → r ≡ true) → (b || r) ≡ true
any_case true r x y n e some rest = refl
any_case false r x y n e some rest = rest (omega arith)

none_case : (b r : Bool) (x y : ℕ) (n : ℕ) → eqb x y ≡ b → cond b 1 0 + n ≡ 0 → (n ≡ 0 → r ≡ false) → (b || r) ≡ false
none_case true r x y n e none rest = absurd (omega arith)
none_case false r x y n e none rest = rest (omega arith)

pub any_counted : (x : ℕ) (xs : List ℕ) → 1 ≤ count x xs → list_any (λ (y : ℕ). eqb x y) xs ≡ true
any_counted x [] some = absurd (omega arith)
any_counted x (y ∷ ys) some = any_case (eqb x y) (list_any (λ (z : ℕ). eqb x z) ys) x y (count x ys) refl some (any_counted x ys)

pub none_counted : (x : ℕ) (xs : List ℕ) → count x xs ≡ 0 → list_any (λ (y : ℕ). eqb x y) xs ≡ false
none_counted x [] none = refl
none_counted x (y ∷ ys) none = none_case (eqb x y) (list_any (λ (z : ℕ). eqb x z) ys) x y (count x ys) refl none (none_counted x ys)

pub counted : (x : ℕ) (xs : List ℕ) → list_any (λ (y : ℕ). eqb x y) xs ≡ true → 1 ≤ count x xs
counted x xs h1 = grind (arith, nat_tests, by_count, true_false, none_counted)

-- a moat that holds exactly one of two places, by counts
crossing_case : (a b w ca cb : ℕ) (ms : List ℕ) → count a ms ≡ ca → count b ms ≡ cb → ca ≤ 1 → cb ≤ 1 →
    cond (crosses_moat a b (record { members = ms; width = w })) w 0 ≡ w * apart ca cb
crossing_case a b w zero zero ms ea eb pa pb = rw (none_counted a ms ea, none_counted b ms eb) (omega arith)
crossing_case a b w zero (suc zero) ms ea eb pa pb = rw (none_counted a ms ea, any_counted b ms (omega (arith, eb))) (omega arith)
crossing_case a b w (suc zero) zero ms ea eb pa pb = rw (any_counted a ms (omega (arith, ea)), none_counted b ms eb) (omega arith)
crossing_case a b w (suc zero) (suc zero) ms ea eb pa pb = rw (any_counted a ms (omega (arith, ea)), any_counted b ms (omega (arith, eb)))
    (omega arith)
crossing_case a b w (suc (suc n)) cb ms ea eb pa pb = absurd (omega arith)
crossing_case a b w zero (suc (suc n)) ms ea eb pa pb = absurd (omega arith)
crossing_case a b w (suc zero) (suc (suc n)) ms ea eb pa pb = absurd (omega arith)

pub crossing : (a b w : ℕ) (ms : List ℕ) → count a ms ≤ 1 → count b ms ≤ 1
    → cond (crosses_moat a b (record { members = ms; width = w })) w 0 ≡ w * apart (count a ms) (count b ms)
crossing a b w ms pa pb = crossing_case a b w (count a ms) (count b ms) ms refl refl pa pb

own_wide : (w : ℕ) (ms : List ℕ) → moat_of_set ms (suc w) ≡ record { members = ms; width = suc w } ∷ []
own_wide w ms = rw (lt-ltb 0 (suc w) (omega arith)) refl

-- one moat more
pub load_own : (a b w : ℕ) (ms : List ℕ) (was : List Moat) → count a ms ≤ 1 → count b ms ≤ 1 → moat_load (was ++ moat_of_set ms w) a b
    ≡ moat_load was a b + w * apart (count a ms) (count b ms)
load_own a b zero ms was pa pb = omega (arith, sum_by-append (λ (m : Moat). cond (crosses_moat a b m) m.width 0) was [])
load_own a b (suc w) ms was pa pb =
    grind (arith, nat_tests, suc, own_wide, sum_by-append, cond, sum_by-cons, crossing)

pub width_own : (w : ℕ) (ms : List ℕ) (was : List Moat) → width_of (was ++ moat_of_set ms w) ≡ width_of was + w
width_own w ms was = grind (arith, nat_tests, sum_by-append, own_wide)

-- one pair more
pub cost_push : (t : TableValue) (ps : List Pair) (a b : ℕ)
    → pairs_cost t (ps ++ record { a = a; b = b } ∷ []) ≡ pairs_cost t ps + entry t a b
cost_push t ps a b = omega (arith, sum_by-append (λ (p : Pair). entry t p.a p.b) ps (record { a = a; b = b } ∷ []))

pub ends_push : (x : ℕ) (ps : List Pair) (a b : ℕ)
    → pair_ends_at (ps ++ record { a = a; b = b } ∷ []) x ≡ pair_ends_at ps x + (one_if_equal x a + one_if_equal x b)
ends_push x ps a b = omega (arith, sum_by-append)

-- the same moats among more places
pub lie_more : (ps qs : List ℕ) (ms : List Moat) → ((x : ℕ) → count x ps ≤ count x qs) → AreMoatsIn ps ms → AreMoatsIn qs ms
lie_more ps qs ms h1 h2 = grind (arith, nat_tests, each-map)

differ_by : (p q : Bool) → p ≡ true → q ≡ false → p ≢ q
differ_by p q e f g = true_false (sym e ∙ g ∙ f)

inside_own : (own m : Moat) (ps : List ℕ) (x : ℕ) → IsOddMoatIn ps m → count x ps ≡ 0 → 1 ≤ count x own.members
    → ((y : ℕ) → count y ps ≤ count y own.members) → AreLaminar own m
inside_own own m ps x o none here more = record {
  differ = (
    x,
    differ_by (moat_holds own x) (moat_holds m x) (any_counted x own.members here)
        (none_counted x m.members (omega (arith, o.within x))),
  );
  lie = inr (inl (λ y some. any_counted y own.members (omega (arith, o.within y, more y, counted y m.members some))));
}

-- a set is different from those inside it that miss one of its places
around : (own : Moat) (ps : List ℕ) (x : ℕ) (ms : List Moat) → Each (IsOddMoatIn ps) ms → count x ps ≡ 0 → 1 ≤ count x own.members →
    ((y : ℕ) → count y ps ≤ count y own.members) → Each (AreLaminar own) ms
around own ps x ms each none here more = each-map (IsOddMoatIn ps) (AreLaminar own) (λ m o. inside_own own m ps x o none here more) ms each

beside : (m k : Moat) (ps qs : List ℕ) → IsOddMoatIn ps m → IsOddMoatIn qs k → ((x : ℕ) → count x ps + count x qs ≤ 1) → AreLaminar m k
beside m k ps qs o u once =
    let some = some_member m.members (omega (arith, o.odd)) in
    record {
      differ = (
        some.0,
        differ_by (moat_holds m some.0) (moat_holds k some.0) (any_counted some.0 m.members some.1)
            (none_counted some.0 k.members (omega (arith, some.1, o.within some.0, u.within some.0, once some.0))),
      );
      lie = inr (inr (λ y here. none_counted y k.members (omega (arith, counted y m.members here, o.within y, u.within y, once y))));
    }

-- moats among places apart
pub lie_both : (ps qs all : List ℕ) (ms ks : List Moat) → AreMoatsIn ps ms → AreMoatsIn qs ks → ((x : ℕ) → count x ps + count x qs ≤ 1) →
    ((x : ℕ) → count x ps + count x qs ≤ count x all) → AreMoatsIn all (ms ++ ks)
lie_both ps qs all ms ks l r once more =
    let a = lie_more ps all ms (λ x. omega (arith, more x)) l in
    let b = lie_more qs all ks (λ x. omega (arith, more x)) r in
    record {
      each = each-append (IsOddMoatIn all) ms ks a.each b.each;
      apart = pairs-append AreLaminar ms ks l.apart r.apart
          (each-map (IsOddMoatIn ps) (λ (m : Moat). Each (AreLaminar m) ks)
          (λ m o. each-map (IsOddMoatIn qs) (AreLaminar m) (λ k u. beside m k ps qs o u once) ks r.each) ms l.each);
    }

-- the set's own moat before those inside it, in two groups that each miss one of its places
pub lie_own : (w : ℕ) (own ps qs : List ℕ) (ms ks : List Moat) (x y : ℕ) → length own % 2 ≡ 1 → AreMoatsIn ps ms → AreMoatsIn qs ks
    → ((z : ℕ) → count z ps + count z qs ≤ 1) → ((z : ℕ) → count z ps + count z qs ≤ count z own) → count x ps ≡ 0 → 1 ≤ count x own
    → count y qs ≡ 0 → 1 ≤ count y own → AreMoatsIn own (moat_of_set own w ++ (ms ++ ks))
lie_own zero own ps qs ms ks x y odd l r once more px ox qy oy = lie_both ps qs own ms ks l r once more
lie_own (suc w) own ps qs ms ks x y odd l r once more px ox qy oy =
    let rest = lie_both ps qs own ms ks l r once more in
    let m : Moat = record { members = own; width = suc w } in
    subst (λ (os : List Moat). AreMoatsIn own (os ++ (ms ++ ks))) (sym (own_wide w own)) (record {
      each = (record { odd = odd; within = λ z. omega arith; wide = omega arith }, rest.each);
      apart = (
        each-append (AreLaminar m) ms ks (around m ps x ms l.each px ox (λ z. omega (arith, more z)))
            (around m qs y ks r.each qy oy (λ z. omega (arith, more z))),
        rest.apart,
      );
    })

pub lie_none : (ps : List ℕ) → AreMoatsIn ps []
lie_none ps = record { each = tt; apart = tt }
