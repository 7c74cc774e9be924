-- Sets taken apart one after another.
use Rattle.std.proofs.Common.{◌≡◌, ℕ, ◌+◌, ◌*◌, ◌≤◌, ◌<◌, List, [], ◌∷◌, ◌++◌, length, arith, refl, sym, ap, subst, ◌∙◌, append_assoc, Some, None, Option}
use Rattle.blossom_match.proofs.Names.{nat_tests, append-nil, Each, IsAdditive, OddSetValue, DualSet, dual_sets, count, dual_load, key_count, match_members, match_dual_sets, IsMatch, moat_load, width_of, moat_of_set, TakesApartMatches, IsTakingApart, MatchValue, Moat, Pair, count-append, hit_same, dual_load-append, size-append, key_count-append, total, TakesApartSet, total-append}
use Rattle.odd_sets.specs.Opens.{OpensAt}
use Rattle.blossom_match.proofs.MoatLemmas.{cost_push, ends_push, lie_both, lie_more, lie_none, lie_own, load_own, width_own}

places_of : (x : ℕ) (c : MatchValue) (rest : List MatchValue) → count x (match_members (c ∷ rest))
    ≡ count x c.first.members + count x c.second.members + count x (match_members rest)
places_of x c rest = omega (arith, count-append)

sum_of : (F : List DualSet → ℕ) → IsAdditive F → (c : MatchValue) (rest : List MatchValue) → F (match_dual_sets (c ∷ rest))
    ≡ F (dual_sets c.first) + F (dual_sets c.second) + F (match_dual_sets rest)
sum_of F add c rest = omega (arith, add)

total_of : (c : MatchValue) (rest : List MatchValue) → total (match_dual_sets (c ∷ rest))
    ≡ total (dual_sets c.first) + total (dual_sets c.second) + total (match_dual_sets rest)
total_of c rest = sum_of total total-append c rest

sizes_of : (c : MatchValue) (rest : List MatchValue) → length (match_dual_sets (c ∷ rest))
    ≡ length (dual_sets c.first) + length (dual_sets c.second) + length (match_dual_sets rest)
sizes_of c rest = sum_of (λ (bs : List DualSet). length bs) size-append c rest

pub record Head (c : MatchValue) (all : List MatchValue) : Type 0 where
  pub from : count c.link.from c.first.members ≡ 1
  pub to : count c.link.to c.second.members ≡ 1
  pub once_first : (x : ℕ) → count x c.first.members ≤ 1
  pub once_second : (x : ℕ) → count x c.second.members ≤ 1
  pub size_first : length (dual_sets c.first) ≤ length (match_dual_sets all)
  pub size_second : length (dual_sets c.second) ≤ length (match_dual_sets all)

pub head_of : (all left : List MatchValue) (old now : List Pair) (was so_far : List Moat) (c : MatchValue) (rest : List MatchValue) →
    IsTakingApart all left old now was so_far → left ≡ c ∷ rest → Head c all
head_of all left old now was so_far c rest taking e =
    let t = subst (λ (l : List MatchValue). IsTakingApart all l old now was so_far) e taking in
    record {
      from = t.joined.0.from;
      to = t.joined.0.to;
      once_first = λ x. omega (arith, places_of x c rest, t.once x, t.rest x);
      once_second = λ x. omega (arith, places_of x c rest, t.once x, t.rest x);
      size_first = omega (arith, sizes_of c rest, t.fewer);
      size_second = omega (arith, sizes_of c rest, t.fewer);
    }

pub taking_more : (all left : List MatchValue) (old now mid end new : List Pair) (was a b z : List Moat) (c : MatchValue)
    (rest : List MatchValue) →
    IsTakingApart all left old now was a → left ≡ c ∷ rest → TakesApartSet c.link.from c.first now mid a b
    → TakesApartSet c.link.to c.second mid end b z →
    new ≡ end ++ record { a = c.link.from; b = c.link.to } ∷ [] → IsTakingApart all rest old new was z
taking_more all left old now mid end new was a b z c rest taking e one two pushed =
    let t = subst (λ (l : List MatchValue). IsTakingApart all l old now was a) e taking in
    let both = c.first.members ++ c.second.members in
    record {
      joined = t.joined.1;
      once = t.once;
      fewer = omega (arith, sizes_of c rest, t.fewer);
      stays = λ tab paid. (t.stays tab paid).1;
      paid = λ tab paid. let s = (t.stays tab paid).0 in
          rw pushed (omega (
            arith,
            cost_push tab end c.link.from c.link.to,
            total_of c rest,
            t.paid tab paid,
            one.paid tab s.first,
            two.paid
                tab s.second,
            s.link,
          ));
      places = λ x. rw pushed (omega (
        arith,
        ends_push x end c.link.from c.link.to,
        places_of x c rest,
        t.places x,
        one.places x,
        two.places
            x,
      ));
      widths = omega (arith, total_of c rest, t.widths, one.widths, two.widths);
      loads = λ x y. omega (arith, sum_of (dual_load x y) (dual_load-append x y) c rest, t.loads x y, one.loads x y, two.loads x y);
      taken = t.taken ++ both;
      rest = λ x. omega (arith, t.rest x, places_of x c rest, count-append);
      moats = t.moats ++ (one.moats ++ two.moats);
      is = grind (arith, nat_tests, append_assoc, t.moats, one.moats, two.moats, t.is, one.is, two.is);
      lie = lie_both t.taken both (t.taken ++ both) t.moats (one.moats ++ two.moats) t.lie
          (lie_both c.first.members c.second.members both one.moats two.moats one.lie two.lie
          (λ x. omega (arith, places_of x c rest, t.once x, t.rest x)) (λ x. omega (arith, count-append)))
          (λ x. omega (arith, count-append, places_of x c rest, t.once x, t.rest x)) (λ x. omega (arith, count-append));
    }

pub taking_start : (all left : List MatchValue) (old : List Pair) (was : List Moat) → Each IsMatch all
    → ((x : ℕ) → count x (match_members all) ≤ 1) → left ≡ all → IsTakingApart all left old old was was
taking_start all left old was joined once e = subst (λ (cs : List MatchValue). IsTakingApart all cs old old was was) (sym e) (record {
  joined = joined;
  once = once;
  fewer = omega arith;
  stays = λ t p. p;
  paid = λ t p. refl;
  places = λ x. refl;
  widths = refl;
  loads = λ a b. refl;
  taken = [];
  rest = λ x. omega arith;
  moats = [];
  is = sym (append-nil was);
  lie = lie_none [];
})

pub taking_done : (all left : List MatchValue) (old new : List Pair) (was now : List Moat) → IsTakingApart all left old new was now
    → length left ≡ 0 → TakesApartMatches all old new was now
taking_done all [] old new was now t none = record {
  paid = λ tab p. omega (arith, t.paid tab p);
  places = λ x. omega (arith, t.places x);
  widths = omega (arith, t.widths);
  loads = λ a b. omega (arith, t.loads a b);
  moats = t.moats;
  is = t.is;
  lie = lie_more t.taken (match_members all) t.moats (λ x. omega (arith, t.rest x)) t.lie;
}
taking_done all (c ∷ cs) old new was now t none = absurd (omega arith)

whole : (w n : ℕ) → n ≡ 1 → w * n ≡ w
whole w n one = rw one (omega arith)

-- a single place
takes_place : (left : ℕ) (s : OddSetValue) (cs : List MatchValue) (old new : List Pair) (was a now : List Moat)
    → ((x : ℕ) → count x s.members ≤ 1) → OpensAt left s None cs → a ≡ was ++ moat_of_set s.members s.dual
    → TakesApartMatches cs old new a now → TakesApartSet left s old new was now
takes_place left s cs old new was a now once o own t =
    let sum = o.sums total total-append in
    record {
      paid = λ tab paid. omega (arith, sum, o.tall, o.places left, hit_same, once, t.paid tab (o.paid tab paid).1, whole);
      places = λ x. omega (arith, o.places x, t.places x);
      widths = omega (arith, sum, t.widths, ap width_of own, width_own s.dual s.members was);
      loads = λ x y. omega (
        arith,
        o.sums (dual_load x y) (dual_load-append x y),
        t.loads x y,
        ap
            (λ (k : List Moat). moat_load k x y) own,
        load_own,
      );
      moats = moat_of_set s.members s.dual ++ t.moats;
      is = t.is ∙ ap (λ (k : List Moat). k ++ t.moats) own ∙ append_assoc was (moat_of_set s.members s.dual) t.moats;
      lie = lie_own s.dual s.members [] (match_members cs) [] t.moats left left o.odd (lie_none []) t.lie
          (λ x. omega (arith, o.places x, once x)) (λ x. omega (arith, o.places x))
          refl (omega (arith, o.places left, hit_same left)) (omega (arith, o.places left, hit_same left, once left))
          (omega (arith, o.places left, hit_same left));
    }

-- a blossom
takes_blossom : (left : ℕ) (s p : OddSetValue) (cs : List MatchValue) (old mid new : List Pair) (was a b now : List Moat)
    → ((x : ℕ) → count x s.members ≤ 1) → OpensAt left s (Some p) cs → a ≡ was ++ moat_of_set s.members s.dual
    → TakesApartSet left p old mid a b → TakesApartMatches cs mid new b now → TakesApartSet left s old new was now
takes_blossom left s p cs old mid new was a b now once o own first t =
    let sum = o.sums total total-append in
    let other = o.holds.1 in
    record {
      paid = λ tab paid. let q = o.paid tab paid in omega (arith, sum, o.tall, first.paid tab q.0, t.paid tab q.1, whole);
      places = λ x. omega (arith, o.places x, first.places x, t.places x);
      widths = omega (arith, sum, first.widths, t.widths, ap width_of own, width_own s.dual s.members was);
      loads = λ x y. omega (
        arith,
        o.sums (dual_load x y) (dual_load-append x y),
        first.loads x y,
        t.loads x y,
        ap
            (λ (k : List Moat). moat_load k x y) own,
        load_own x y s.dual s.members was (once x) (once y),
      );
      moats = moat_of_set s.members s.dual ++ (first.moats ++ t.moats);
      is = grind (arith, nat_tests, append_assoc, first.moats, t.moats, first.is, t.is);
      lie = lie_own s.dual s.members p.members (match_members cs) first.moats t.moats other.0 left o.odd first.lie t.lie
          (λ x. omega (arith, o.places x, once x)) (λ x. omega (arith, o.places x))
          (omega (arith, other.1, o.places other.0, once other.0)) (omega (arith, other.1, o.places other.0))
          (omega (arith, o.holds.0, o.places left, once left)) (omega (arith, o.holds.0, o.places left));
    }

pub took_place : (left : ℕ) (s : OddSetValue) (core : Option OddSetValue) (cs : List MatchValue) (old new : List Pair)
    (was a now : List Moat) → ((x : ℕ) → count x s.members ≤ 1) → core ≡ None → OpensAt left s core cs
    → a ≡ was ++ moat_of_set s.members s.dual → TakesApartMatches cs old new a now → TakesApartSet left s old new was now
took_place left s core cs old new was a now once e o own t =
    takes_place left s cs old new was a now once (subst (λ (k : Option OddSetValue). OpensAt left s k cs) e o) own t

pub took_blossom : (left : ℕ) (s p : OddSetValue) (core : Option OddSetValue) (cs : List MatchValue) (old mid new : List Pair)
    (was a b now : List Moat) → ((x : ℕ) → count x s.members ≤ 1) → core ≡ Some p →
    OpensAt left s core cs → a ≡ was ++ moat_of_set s.members s.dual → TakesApartSet left p old mid a b → TakesApartMatches cs mid new b now
    → TakesApartSet left s old new was now
took_blossom left s p core cs old mid new was a b now h1 h2 h3 h4 h5 h6 = grind (arith, nat_tests, takes_blossom)

pub record CoreOf (left : ℕ) (s p : OddSetValue) (cs : List MatchValue) : Type 0 where
  pub holds : count left p.members ≡ 1
  pub once : (x : ℕ) → count x p.members ≤ 1
  pub fewer : length (dual_sets p) < length (dual_sets s)

pub core_of : (left : ℕ) (s p : OddSetValue) (core : Option OddSetValue) (cs : List MatchValue) → core ≡ Some p
    → OpensAt left s core cs → ((x : ℕ) → count x s.members ≤ 1) → CoreOf left s p cs
core_of left s p core cs e open_ once =
    let o = subst (λ (k : Option OddSetValue). OpensAt left s k cs) e open_ in
    record {
      holds = o.holds.0;
      once = λ x. omega (arith, o.places x, once x);
      fewer =
          omega (arith, o.sums (λ (bs : List DualSet). length bs) size-append);
    }

pub record RestOf (s : OddSetValue) (cs : List MatchValue) : Type 0 where
  pub once : (x : ℕ) → count x (match_members cs) ≤ 1
  pub fewer : length (match_dual_sets cs) < length (dual_sets s)

pub rest_of : (left : ℕ) (s : OddSetValue) (core : Option OddSetValue) (cs : List MatchValue) → OpensAt left s core cs
    → ((x : ℕ) → count x s.members ≤ 1) → RestOf s cs
rest_of left s core cs o once =
    record { once = λ x. omega (arith, o.places x, once x); fewer = omega (arith, o.sums (λ (bs : List DualSet). length bs) size-append) }

-- each set of the part that is left, and of the matches, is inside the opened set
pub core_uses : (left : ℕ) (s p : OddSetValue) (core : Option OddSetValue) (cs : List MatchValue) → core ≡ Some p → OpensAt left s core cs
    → (k : ℕ) → key_count k (dual_sets p) ≤ key_count k (dual_sets s)
core_uses left s p core cs e open_ k =
    let o = subst (λ (c : Option OddSetValue). OpensAt left s c cs) e open_ in
    omega (arith, o.sums (key_count k) (key_count-append k))

pub rest_uses : (left : ℕ) (s : OddSetValue) (core : Option OddSetValue) (cs : List MatchValue) → OpensAt left s core cs
    → (k : ℕ) → key_count k (match_dual_sets cs) ≤ key_count k (dual_sets s)
rest_uses left s core cs o k = omega (arith, o.sums (key_count k) (key_count-append k))
