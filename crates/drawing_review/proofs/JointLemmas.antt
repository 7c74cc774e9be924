-- The points that are put, joint by joint, are those that joints join.
use Rattle.std.proofs.Common.{◌≡◌, ◌∙◌, ℕ, Bool, true, false, ◌||◌, ◌⊎◌, cond, List, [], ◌∷◌, ◌++◌, inl, inr, refl, ap, sym, subst, arith, if◌then◌else◌}
use Rattle.std.specs.List.{list_any}
use Rattle.drawing_review.specs.declared.grid_point.GridPoint.{GridPoint}
use Rattle.drawing_review.specs.Meetings.{is_same_grid_point}
use Rattle.drawing_review.specs.declared.joined_points.Place.{Place}
use Rattle.drawing_review.specs.declared.joints.Joint.{Joint}
use Rattle.drawing_review.specs.JoinedPoints.{AreJoinedEnds, AreTestedAlike, IsGrowing, PutsEnds, is_among, is_same_place, place_of}
use Rattle.drawing_review.specs.Joints.{are_joined_after, are_joined_by, point_after}
use Rattle.std.proofs.lemmas.Bool.Decides.{nat_tests}

-- Points that pass the test are the same, and each passes it with itself.
same_points : (p q : GridPoint) → is_same_grid_point p q ≡ true → p ≡ q
same_points p q same =
    let x : p.x ≡ q.x = grind (arith, nat_tests, same) in
    let y : p.y ≡ q.y = grind (arith, nat_tests, same) in
    ap (λ (n : ℕ). record { x = n; y = p.y }) x ∙ ap (λ (n : ℕ). record { x = q.x; y = n }) y

same_itself : (p : GridPoint) → is_same_grid_point p p ≡ true
same_itself p = grind (arith, nat_tests)

same_where : (p q : GridPoint) → p ≡ q → is_same_grid_point p q ≡ true
same_where p q is = ap (is_same_grid_point p) (sym is) ∙ same_itself p

pub never : true ≡ false → ⊥
never is = cc

-- What a point has become after all joints, where it had become another before them.
abbrev become : (GridPoint → GridPoint) → List Joint → GridPoint → GridPoint
become f [] z = f z
become f (t ∷ rest) z = become (λ w. point_after (f t.b) (f t.a) (f w)) rest z

joined_where : (f : GridPoint → GridPoint) (joints : List Joint) (p q : GridPoint)
    → are_joined_after f joints p q ≡ is_same_grid_point (become f joints p) (become f joints q)
joined_where f [] p q = refl
joined_where f (t ∷ rest) p q = joined_where (λ w. point_after (f t.b) (f t.a) (f w)) rest p q

still_same : (f : GridPoint → GridPoint) (joints : List Joint) (p q : GridPoint) → f p ≡ f q → become f joints p ≡ become f joints q
still_same f [] p q same = same
still_same f (t ∷ rest) p q same =
    still_same (λ w. point_after (f t.b) (f t.a) (f w)) rest p q (ap (point_after (f t.b) (f t.a)) same)

-- The ends of a joint become one point.
ends_meet : (a b : GridPoint) → point_after b a a ≡ point_after b a b
ends_meet a b = first (is_same_grid_point a b) ∙ sym (ap (λ (test : Bool). if test then a else b) (same_itself b))
  where
    first : (test : Bool) → (if test then a else a) ≡ a
    first true = refl
    first false = refl

-- The ends of each joint have become one point.
abbrev AreMet : (GridPoint → GridPoint) → List Joint → Type 0
AreMet f [] = Unit {0}
AreMet f (t ∷ rest) = (f t.a ≡ f t.b) × AreMet f rest

all_met : (f : GridPoint → GridPoint) (joints : List Joint) → AreMet (become f joints) joints
all_met f [] = tt
all_met f (t ∷ rest) =
    let g : GridPoint → GridPoint = λ w. point_after (f t.b) (f t.a) (f w) in
    (still_same g rest t.a t.b (ends_meet (f t.a) (f t.b)), all_met g rest)

module _ (joints : List Joint) where
  abbrev place : GridPoint → GridPoint
  place z = become (λ w. w) joints z

  joined_is : (p q : GridPoint) → are_joined_by joints p q ≡ is_same_grid_point (place p) (place q)
  joined_is p q = joined_where (λ w. w) joints p q

  one_place : (p q : GridPoint) → are_joined_by joints p q ≡ true → place p ≡ place q
  one_place p q joined = same_points (place p) (place q) (sym (joined_is p q) ∙ joined)

  from_place : (p q : GridPoint) → place p ≡ place q → are_joined_by joints p q ≡ true
  from_place p q is = joined_is p q ∙ same_where (place p) (place q) is

  joined_on : (p q r : GridPoint) → are_joined_by joints p q ≡ true → are_joined_by joints q r ≡ true → are_joined_by joints p r ≡ true
  joined_on p q r first second = from_place p r (one_place p q first ∙ one_place q r second)

  joined_back : (p q : GridPoint) → are_joined_by joints p q ≡ true → are_joined_by joints q p ≡ true
  joined_back p q joined = from_place q p (sym (one_place p q joined))

  ends_joined : (some : List Joint) → AreMet place some → AreJoinedEnds joints some
  ends_joined [] met = tt
  ends_joined (t ∷ rest) met = (from_place t.a t.b met.0, ends_joined rest met.1)

  all_joined : AreJoinedEnds joints joints
  all_joined = ends_joined joints (all_met (λ w. w) joints)

-- A test by which the ends of joints are alike is the same of a point and of what it becomes.
tested_after : (test : GridPoint → Bool) (f : GridPoint → GridPoint) (joints : List Joint) → ((z : GridPoint) → test (f z) ≡ test z)
    → AreTestedAlike test joints → (z : GridPoint) → test (become f joints z) ≡ test z
tested_after test f [] same alike z = same z
tested_after test f (t ∷ rest) same alike z = tested_after test (λ w. point_after (f t.b) (f t.a) (f w)) rest step alike.1 z
  where
    by_test : (w : GridPoint) (b : Bool) → is_same_grid_point (f w) (f t.b) ≡ b → test (if b then f t.a else f w) ≡ test w
    by_test w true is = same t.a ∙ alike.0 ∙ sym (same t.b) ∙ sym (ap test (same_points (f w) (f t.b) is)) ∙ same w
    by_test w false is = same w

    step : (w : GridPoint) → test (point_after (f t.b) (f t.a) (f w)) ≡ test w
    step w = by_test w (is_same_grid_point (f w) (f t.b)) refl

-- Joined points are tested alike where the ends of all joints are.
joined_alike : (test : GridPoint → Bool) (joints : List Joint) (p q : GridPoint) → AreTestedAlike test joints
    → are_joined_by joints p q ≡ true → test p ≡ test q
joined_alike test joints p q alike joined =
    sym (tested_after test (λ w. w) joints (λ z. refl) alike p) ∙ ap test (one_place joints p q joined)
    ∙ tested_after test (λ w. w) joints (λ z. refl) alike q

-- lists with one joint more at their ends
joined_last : (joints some : List Joint) (t : Joint) → AreJoinedEnds joints (some ++ t ∷ []) → are_joined_by joints t.a t.b ≡ true
joined_last joints [] t all = all.0
joined_last joints (s ∷ some) t all = joined_last joints some t all.1

joined_front : (joints some : List Joint) (t : Joint) → AreJoinedEnds joints (some ++ t ∷ []) → AreJoinedEnds joints some
joined_front joints [] t all = tt
joined_front joints (s ∷ some) t all = (all.0, joined_front joints some t all.1)

joined_more : (joints some : List Joint) (t : Joint) → AreJoinedEnds joints some → are_joined_by joints t.a t.b ≡ true
    → AreJoinedEnds joints (some ++ t ∷ [])
joined_more joints [] t all last = (last, tt)
joined_more joints (s ∷ some) t all last = (all.0, joined_more joints some t all.1 last)

alike_last : (test : GridPoint → Bool) (some : List Joint) (t : Joint) → AreTestedAlike test (some ++ t ∷ []) → test t.a ≡ test t.b
alike_last test [] t all = all.0
alike_last test (s ∷ some) t all = alike_last test some t all.1

alike_front : (test : GridPoint → Bool) (some : List Joint) (t : Joint) → AreTestedAlike test (some ++ t ∷ []) → AreTestedAlike test some
alike_front test [] t all = tt
alike_front test (s ∷ some) t all = (all.0, alike_front test some t all.1)

pub alike_more : (test : GridPoint → Bool) (some : List Joint) (t : Joint) → AreTestedAlike test some → test t.a ≡ test t.b
    → AreTestedAlike test (some ++ t ∷ [])
alike_more test [] t all last = (last, tt)
alike_more test (s ∷ some) t all last = (all.0, alike_more test some t all.1 last)

-- A point alone, before any joint.
pub begins_alone : (joints : List Joint) (p : GridPoint) (places : List Place)
    → ((q : GridPoint) → is_among places q ≡ is_same_grid_point p q) → IsGrowing joints p joints [] places
begins_alone joints p places alone = record {
  begins = alone p ∙ same_itself p;
  joined = λ q is. from_place joints p q (ap (place joints) (same_points p q (sym (alone q) ∙ is)));
  of_left = all_joined joints;
  of_later = tt;
  closed = λ test passes left later. left;
}

either_true : (a b : Bool) → (a || b) ≡ true → (a ≡ true) ⊎ (b ≡ true)
either_true true b is = inl refl
either_true false b is = inr is

left_true : (a b : Bool) → a ≡ true → (a || b) ≡ true
left_true a b is = ap (λ (c : Bool). c || b) is

right_true : (a b : Bool) → b ≡ true → (a || b) ≡ true
right_true true b is = refl
right_true false b is = is

-- The last joint that is left has an end among the points: both ends are put to them.
pub grow_on : (joints : List Joint) (p : GridPoint) (left rest later : List Joint) (t : Joint) (old new : List Place)
    → left ≡ rest ++ t ∷ [] → PutsEnds t old new → IsGrowing joints p left later old → IsGrowing joints p rest later new
grow_on joints p left rest later t old new last puts is = record {
  begins = kept p is.begins;
  joined = λ q now. of_either q (either_true _ _ (sym (puts.puts q) ∙ now));
  of_left = joined_front joints rest t of_left;
  of_later = is.of_later;
  closed = λ test passes alike others. is.closed test (λ q was. passes q (kept q was))
      (subst (AreTestedAlike test) (sym last) (alike_more test rest t alike (passes t.a has_first ∙ sym (passes t.b has_second)))) others;
}
  where
    of_left : AreJoinedEnds joints (rest ++ t ∷ [])
    of_left = subst (AreJoinedEnds joints) last is.of_left

    kept : (q : GridPoint) → is_among old q ≡ true → is_among new q ≡ true
    kept q was = puts.puts q ∙ left_true _ _ was

    has_first : is_among new t.a ≡ true
    has_first = puts.puts t.a ∙ right_true (is_among old t.a) _ (left_true _ _ (same_itself t.a))

    has_second : is_among new t.b ≡ true
    has_second = puts.puts t.b ∙ right_true (is_among old t.b) _ (right_true (is_same_grid_point t.a t.b) _ (same_itself t.b))

    ends : are_joined_by joints t.a t.b ≡ true
    ends = joined_last joints rest t of_left

    to_first : (is_among old t.a ≡ true) ⊎ (is_among old t.b ≡ true) → are_joined_by joints p t.a ≡ true
    to_first (inl was) = is.joined t.a was
    to_first (inr was) = joined_on joints p t.b t.a (is.joined t.b was) (joined_back joints t.a t.b ends)

    first : are_joined_by joints p t.a ≡ true
    first = to_first (either_true _ _ puts.had)

    of_end : (q : GridPoint) → (is_same_grid_point t.a q ≡ true) ⊎ (is_same_grid_point t.b q ≡ true) → are_joined_by joints p q ≡ true
    of_end q (inl same) = subst (λ (z : GridPoint). are_joined_by joints p z ≡ true) (same_points t.a q same) first
    of_end q (inr same) =
        subst (λ (z : GridPoint). are_joined_by joints p z ≡ true) (same_points t.b q same) (joined_on joints p t.a t.b first ends)

    of_either : (q : GridPoint) → (is_among old q ≡ true) ⊎ ((is_same_grid_point t.a q || is_same_grid_point t.b q) ≡ true)
        → are_joined_by joints p q ≡ true
    of_either q (inl was) = is.joined q was
    of_either q (inr same) = of_end q (either_true _ _ same)

-- It has none: it is left for later.
pub grow_past : (joints : List Joint) (p : GridPoint) (left rest later more : List Joint) (t : Joint) (old new : List Place)
    → left ≡ rest ++ t ∷ [] → more ≡ later ++ t ∷ [] → new ≡ old → IsGrowing joints p left later old
    → IsGrowing joints p rest more new
grow_past joints p left rest later more t old new last is_more stays is = subst (IsGrowing joints p rest more) (sym stays) (record {
  begins = is.begins;
  joined = is.joined;
  of_left = joined_front joints rest t of_left;
  of_later = subst (AreJoinedEnds joints) (sym is_more) (joined_more joints later t is.of_later (joined_last joints rest t of_left));
  closed = λ test passes alike others.
      let all : AreTestedAlike test (later ++ t ∷ []) = subst (AreTestedAlike test) is_more others in
      is.closed test passes
      (subst (AreTestedAlike test) (sym last) (alike_more test rest t alike (alike_last test later t all)))
      (alike_front test later t all);
})
  where
    of_left : AreJoinedEnds joints (rest ++ t ∷ [])
    of_left = subst (AreJoinedEnds joints) last is.of_left

-- None is left: those for later are left for the next round.
pub grow_round : (joints : List Joint) (p : GridPoint) (left later : List Joint) (places : List Place) → left ≡ []
    → IsGrowing joints p left later places → IsGrowing joints p later [] places
grow_round joints p left later places none is = record {
  begins = is.begins;
  joined = is.joined;
  of_left = is.of_later;
  of_later = tt;
  closed = λ test passes alike others. is.closed test passes (subst (AreTestedAlike test) (sym none) tt) alike;
}

-- Where the joints that are left have both ends among the points or neither, the points are those that joints join.
pub grow_over : (joints : List Joint) (p : GridPoint) (left : List Joint) (places : List Place) → IsGrowing joints p left [] places
    → AreTestedAlike (is_among places) left → (q : GridPoint) → is_among places q ≡ are_joined_by joints p q
grow_over joints p left places is alike q = by_test (is_among places q) refl (are_joined_by joints p q) refl
  where
    by_test : (a : Bool) → is_among places q ≡ a → (b : Bool) → are_joined_by joints p q ≡ b
        → is_among places q ≡ are_joined_by joints p q
    by_test true here b other = here ∙ sym (is.joined q here)
    by_test false here false other = here ∙ sym other
    by_test false here true other =
        sym (joined_alike (is_among places) joints p q (is.closed (is_among places) (λ z has. has) alike tt) other)
        ∙ is.begins ∙ sym other

-- A place is put to others.
pub put_place : (p q : GridPoint) (k : Place) (old new : List Place) → k ≡ place_of p
    → ((r : Place) → list_any (is_same_place r) new ≡ cond (is_same_place k r) true (list_any (is_same_place r) old))
    → is_among new q ≡ cond (is_same_grid_point p q) true (is_among old q)
put_place p q k old new is put =
    put (place_of q) ∙ ap (λ (r : Place). cond (is_same_place r (place_of q)) true (is_among old q)) is

alone_true : (b : Bool) → cond b true false ≡ b
alone_true true = refl
alone_true false = refl

pub put_alone : (p q : GridPoint) (k : Place) (old new : List Place) → k ≡ place_of p → old ≡ []
    → ((r : Place) → list_any (is_same_place r) new ≡ cond (is_same_place k r) true (list_any (is_same_place r) old))
    → is_among new q ≡ is_same_grid_point p q
put_alone p q k old new is none put =
    put_place p q k old new is put
    ∙ ap (λ (places : List Place). cond (is_same_grid_point p q) true (is_among places q)) none ∙ alone_true (is_same_grid_point p q)

-- One end is among the points, and the other one is put to them.
put_either : (was first second : Bool) → (first ≡ true → was ≡ true) → cond second true was ≡ (was || (first || second))
put_either true first true had = refl
put_either true first false had = refl
put_either false true second had = absurd (never (sym (had refl)))
put_either false false true had = refl
put_either false false false had = refl

pub put_second : (t : Joint) (old new : List Place) → is_among old t.a ≡ true
    → ((q : GridPoint) → is_among new q ≡ cond (is_same_grid_point t.b q) true (is_among old q)) → PutsEnds t old new
put_second t old new had put = record {
  had = left_true _ _ had;
  puts = λ q. put q ∙ put_either (is_among old q) (is_same_grid_point t.a q) (is_same_grid_point t.b q)
      (λ same. subst (λ (z : GridPoint). is_among old z ≡ true) (same_points t.a q same) had);
}

turned : (was first second : Bool) → (was || (second || first)) ≡ (was || (first || second))
turned was first second = grind (arith, nat_tests)

pub put_first : (t : Joint) (old new : List Place) → is_among old t.b ≡ true
    → ((q : GridPoint) → is_among new q ≡ cond (is_same_grid_point t.a q) true (is_among old q)) → PutsEnds t old new
put_first t old new had put = record {
  had = right_true (is_among old t.a) _ had;
  puts = λ q. put q ∙ put_either (is_among old q) (is_same_grid_point t.b q) (is_same_grid_point t.a q)
      (λ same. subst (λ (z : GridPoint). is_among old z ≡ true) (same_points t.b q same) had)
      ∙ turned (is_among old q) (is_same_grid_point t.a q) (is_same_grid_point t.b q);
}
