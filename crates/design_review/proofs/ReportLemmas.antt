-- Holes that are reported, by the keys of their needles.
use Rattle.std.proofs.Common.{◌≡◌, ◌∙◌, ℕ, ◌+◌, ◌-◌, ◌==◌, ◌≤◌, Bool, true, false, not, ◌&&◌, ◌||◌, cond, nat_lt, List, [], ◌∷◌, ◌++◌, Some, None, IsTrue, map, ap, sym, refl, append-nil, arith}
use Rattle.std.proofs.lemmas.Bool.Decides.{nat_tests}
use Rattle.std.proofs.lemmas.Bool.{and_from, and_parts}
use Rattle.std.specs.List.{list_all, list_any}
use Rattle.std.specs.Prelude.{if◌then◌else◌}
use Rattle.design_model.specs.declared.point.Point.{Point}
use Rattle.design_model.specs.declared.point.TheConstants.{NEEDLE_LIMIT}
use Rattle.design_model.specs.Points.{is_point_within}
use Rattle.design_model.proofs.ListLemmas.{some_same}
use Rattle.design_review.specs.declared.place.DesignPlace.{DesignPlace}
use Rattle.design_review.specs.declared.place.DesignPlace.TheVariants as place
use Rattle.design_review.specs.Crowds.{AreKeysOf, crowd_of, has_key, is_near_any, near_keys}
use Rattle.design_review.specs.Holes.{are_in_one_hole, is_crowded, is_in_reported_hole, needles_in_hole, reported_after}
use Rattle.design_review.specs.KnownReviews.{NotesCrowd}
use Rattle.design_review.specs.NeedleKeys.{key_of}
use Rattle.design_review.specs.Places.{Review, hole_places, place_where}
use Rattle.design_review.proofs.KeyLemmas.{coordinate_low, in_one_hole, in_windows}
use Rattle.design_review.proofs.WindowLemmas.{one_between}

-- tests that agree find the same
any_same : (f g : ℕ → Bool) → ((k : ℕ) → f k ≡ g k) → (ks : List ℕ) → list_any f ks ≡ list_any g ks
any_same f g same [] = refl
any_same f g same (k ∷ rest) = grind (arith, nat_tests, same k, any_same f g same rest)

or_order : (a b c d : Bool) → ((a || b) || (c || d)) ≡ ((a || c) || (b || d))
or_order a b c d = grind (arith, nat_tests)

-- a key passes one of two tests
any_or : (f g : ℕ → Bool) (ks : List ℕ) → list_any (λ k. f k || g k) ks ≡ (list_any f ks || list_any g ks)
any_or f g [] = refl
any_or f g (k ∷ rest) =
    ap (λ (t : Bool). (f k || g k) || t) (any_or f g rest) ∙ or_order (f k) (g k) (list_any f rest) (list_any g rest)

-- a key in a window is one of the keys there
single : (m x : ℕ) → ((x == m) || false) ≡ nat_lt 0 (one_between m m x)
single m x = grind (arith, nat_tests)

first_alone : (m x : ℕ) (rest : Bool) → ((x == m) || rest) ≡ (nat_lt 0 (one_between m m x) || rest)
first_alone m x rest = grind (arith, nat_tests)

three : (m top x : ℕ) (rest : Bool) → top ≡ m + 2
    → ((x == m) || ((x == m + 1) || ((x == m + 2) || rest))) ≡ (nat_lt 0 (one_between m top x) || rest)
three m top x rest is = grind (arith, nat_tests)

five : (key x : ℕ) (rest : Bool) → 2 ≤ key
    → ((x == key - 2) || ((x == key - 1) || ((x == key) || ((x == key + 1) || ((x == key + 2) || rest)))))
    ≡ (nat_lt 0 (one_between (key - 2) (key + 2) x) || rest)
five key x rest more = grind (arith, nat_tests)

some_more : (a b : ℕ) → (nat_lt 0 a || nat_lt 0 b) ≡ nat_lt 0 (a + b)
some_more a b = grind (arith, nat_tests)

one_of_test : (t : Bool) → nat_lt 0 (if t then 1 else 0) ≡ t
one_of_test true = refl
one_of_test false = refl

-- a key is one of those near another exactly where it is in a window
near_by_windows : (key x : ℕ) → 131074 ≤ key → list_any (λ k. x == k) (near_keys key) ≡ nat_lt 0 (in_windows key x)
near_by_windows key x more =
    let l : key - 65535 ≡ key - 65537 + 2 = omega (arith, more) in
    let r : key + 65537 ≡ key + 65535 + 2 = omega arith in
    first_alone (key - 131072) x _
    ∙ ap (λ (t : Bool). nat_lt 0 (one_between (key - 131072) (key - 131072) x) || t)
    (three (key - 65537) (key - 65535) x _ l
    ∙ ap (λ (t : Bool). nat_lt 0 (one_between (key - 65537) (key - 65535) x) || t)
    (five key x _ (omega (arith, more))
    ∙ ap (λ (t : Bool). nat_lt 0 (one_between (key - 2) (key + 2) x) || t)
    (three (key + 65535) (key + 65537) x _ r
    ∙ ap (λ (t : Bool). nat_lt 0 (one_between (key + 65535) (key + 65537) x) || t) (single (key + 131072) x)
    ∙ some_more (one_between (key + 65535) (key + 65537) x) (one_between (key + 131072) (key + 131072) x))
    ∙ some_more (one_between (key - 2) (key + 2) x) _)
    ∙ some_more (one_between (key - 65537) (key - 65535) x) _)
    ∙ some_more (one_between (key - 131072) (key - 131072) x) _

-- the key of a needle is one of those near that of another exactly where both are in one hole
near_is : (p q : Point) → IsTrue (is_point_within NEEDLE_LIMIT p) → IsTrue (is_point_within NEEDLE_LIMIT q)
    → list_any (λ k. key_of q == k) (near_keys (key_of p)) ≡ are_in_one_hole p q
near_is p q here there = near_by_windows (key_of p) (key_of q) (omega (arith, coordinate_low p.x))
    ∙ ap (λ (n : ℕ). nat_lt 0 n) (in_one_hole p q here there) ∙ one_of_test (are_in_one_hole p q)

-- a key near that of a needle is reported exactly where a hole of the needle is
near_keys_of : (points : List Point) (p : Point) → IsTrue (list_all (is_point_within NEEDLE_LIMIT) points)
    → IsTrue (is_point_within NEEDLE_LIMIT p) → is_near_any (has_key (map key_of points)) (key_of p) ≡ is_in_reported_hole points p
near_keys_of [] p all here = refl
near_keys_of (q ∷ rest) p all here =
    let both = and_parts (is_point_within NEEDLE_LIMIT q) (list_all (is_point_within NEEDLE_LIMIT) rest) all in
    any_or (λ k. key_of q == k) (has_key (map key_of rest)) (near_keys (key_of p))
    ∙ ap (λ (t : Bool). t || is_near_any (has_key (map key_of rest)) (key_of p)) (near_is p q here both.0)
    ∙ ap (λ (t : Bool). are_in_one_hole p q || t) (near_keys_of rest p both.1 here)

pub near_reported : (points : List Point) (keys : ℕ → Bool) (p : Point) → AreKeysOf points keys
    → IsTrue (is_point_within NEEDLE_LIMIT p) → is_near_any keys (key_of p) ≡ is_in_reported_hole points p
near_reported points keys p are here = any_same keys (has_key (map key_of points)) are.same (near_keys (key_of p))
    ∙ near_keys_of points p are.in_range here

-- a needle that isn't crowded is in no hole
crowd_none : (t : Bool) (count : ℕ) → None ≡ (if t then Some count else None) → t ≡ false
crowd_none true count is = cc
crowd_none false count is = refl

crowd_some : (t : Bool) (count found : ℕ) → Some found ≡ (if t then Some count else None) → (t ≡ true) × (found ≡ count)
crowd_some true count found is = (refl, some_same found count is)
crowd_some false count found is = cc

pub no_hole : (review : Review) (points : List Point) (keys : ℕ → Bool) (command : ℕ) (p : Point) (places : List DesignPlace)
    → None ≡ crowd_of review.limits.hole review.needles p → AreKeysOf points keys
    → (places ≡ places ++ hole_places review points command p)
    × AreKeysOf (reported_after review.limits.hole review.needles points p) keys
no_hole review points keys command p places none are =
    let is : is_crowded review.limits.hole review.needles p ≡ false = crowd_none _ (needles_in_hole review.needles p) none in
    (rw is (sym (append-nil places)), rw is are)

-- the keys of one more point
one_more_key : (points : List Point) (p : Point) (before after : ℕ → Bool) → AreKeysOf points before
    → IsTrue (is_point_within NEEDLE_LIMIT p) → ((other : ℕ) → after other ≡ (before other || (true && key_of p == other)))
    → AreKeysOf (p ∷ points) after
one_more_key points p before after are here noted = record {
  in_range = and_from (is_point_within NEEDLE_LIMIT p) (list_all (is_point_within NEEDLE_LIMIT) points) here are.in_range;
  same = λ other. noted other ∙ ap (λ (t : Bool). t || (true && key_of p == other)) (are.same other)
      ∙ or_turned (has_key (map key_of points) other) (key_of p == other);
}
  where
    or_turned : (a b : Bool) → (a || (true && b)) ≡ (b || a)
    or_turned a b = grind (arith, nat_tests)

same_keys : (points : List Point) (before after : ℕ → Bool) (key : ℕ) → AreKeysOf points before
    → ((other : ℕ) → after other ≡ (before other || (false && key == other))) → AreKeysOf points after
same_keys points before after key are noted = record {
  in_range = are.in_range;
  same = λ other. noted other ∙ or_none (before other) (key == other) ∙ are.same other;
}
  where
    or_none : (a b : Bool) → (a || (false && b)) ≡ a
    or_none a b = grind (arith, nat_tests)

-- a crowded needle is noted, unless it is in a hole that is reported
pub hole_noted : (review : Review) (points : List Point) (before after : ℕ → Bool) (command count : ℕ) (p : Point)
    (old new : List DesignPlace) → NotesCrowd command (key_of p) count old new before after
    → Some count ≡ crowd_of review.limits.hole review.needles p → IsTrue (is_point_within NEEDLE_LIMIT p) → AreKeysOf points before
    → (new ≡ old ++ hole_places review points command p)
    × AreKeysOf (reported_after review.limits.hole review.needles points p) after
hole_noted review points before after command count p old new notes some here are =
    let crowded = crowd_some (is_crowded review.limits.hole review.needles p) (needles_in_hole review.needles p) count some in
    by_test (is_in_reported_hole points p) refl crowded.0 crowded.1
  where
    near : is_near_any before (key_of p) ≡ is_in_reported_hole points p
    near = near_reported points before p are here

    by_test : (t : Bool) → is_in_reported_hole points p ≡ t → is_crowded review.limits.hole review.needles p ≡ true
        → count ≡ needles_in_hole review.needles p → (new ≡ old ++ hole_places review points command p)
        × AreKeysOf (reported_after review.limits.hole review.needles points p) after
    by_test true is crowded same = (
      rw (crowded, is) (notes.places ∙ ap (λ (t : Bool). old ++ place_where (not t) (place.Hole command count)) (near ∙ is)),
      rw (crowded, is) (same_keys points before after (key_of p) are
          (λ other. notes.noted other ∙ ap (λ (t : Bool). before other || (not t && key_of p == other)) (near ∙ is))),
    )
    by_test false is crowded same = (
      rw (crowded, is) (notes.places ∙ ap (λ (t : Bool). old ++ place_where (not t) (place.Hole command count)) (near ∙ is)
          ∙ ap (λ (n : ℕ). old ++ place.Hole command n ∷ []) same),
      rw (crowded, is) (one_more_key points p before after are here
          (λ other. notes.noted other ∙ ap (λ (t : Bool). before other || (not t && key_of p == other)) (near ∙ is))),
    )

-- a needle that wasn't near a reported one is put in
pub crowd_put : (command key count : ℕ) (old new : List DesignPlace) (before after : ℕ → Bool) → is_near_any before key ≡ false
    → new ≡ old ++ place.Hole command count ∷ [] → ((q : ℕ) → after q ≡ cond (key == q) true (before q))
    → NotesCrowd command key count old new before after
crowd_put command key count old new before after none pushed noted = record {
  places = pushed ∙ ap (λ (t : Bool). old ++ place_where (not t) (place.Hole command count)) (sym none);
  noted = λ q. noted q ∙ put_in (key == q) (before q) ∙ ap (λ (t : Bool). before q || (not t && key == q)) (sym none);
}
  where
    put_in : (a b : Bool) → cond a true b ≡ (b || (not false && a))
    put_in a b = grind (arith, nat_tests)
