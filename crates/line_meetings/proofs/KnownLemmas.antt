-- Points joined to others that are kept.
use Rattle.std.proofs.Common.{◌≡◌, ◌==◌, ◌&&◌, ℕ, Bool, true, false, not, cond, List, Option, Some, None, filter, map, option_map, refl, ap, sym, ◌∙◌, arith}
use Rattle.drawing_review.specs.declared.grid_point.GridPoint.{GridPoint}
use Rattle.drawing_review.specs.declared.joined_points.Place.{Place}
use Rattle.line_meetings.specs.declared.known_points.PointKey.{PointKey}
use Rattle.line_meetings.specs.Bounds.{bounds_around}
use Rattle.drawing_review.specs.JoinedPoints.{is_among}
use Rattle.drawing_review.specs.Joints.{are_joined_by, joint_of}
use Rattle.line_meetings.specs.Joints.{AreJoinedPoints, are_joined_around}
use Rattle.line_meetings.specs.KnownPoints.{AreKnown, StaysKnown, is_same_point_key, point_key_of}
use Rattle.line_meetings.specs.Touches.{are_close}
use Rattle.line_meetings.proofs.Names.{LineSegment, are_bounds_apart, bounds_of, nat_tests}

-- keys that are equal are the same
same_keys : (k l : PointKey) → is_same_point_key k l ≡ true → k ≡ l
same_keys k l same =
    let block : k.block ≡ l.block = grind (arith, nat_tests, same) in
    let x : k.x ≡ l.x = grind (arith, nat_tests, same) in
    let y : k.y ≡ l.y = grind (arith, nat_tests, same) in
    ap (λ (n : ℕ). record { block = n; x = k.x; y = k.y }) block
    ∙ ap (λ (n : ℕ). record { block = l.block; x = n; y = k.y }) x ∙ ap (λ (n : ℕ). record { block = l.block; x = l.x; y = n }) y

-- the point of a key
abbrev point_in : PointKey → GridPoint
point_in k = record { x = k.x; y = k.y }

-- segments near the point of a key join it and another one
abbrev joined_near : ℕ → List LineSegment → LineSegment → PointKey → Bool
joined_near gap segments q k = are_joined_by (map joint_of (filter (λ t.
    not (are_bounds_apart (bounds_around gap (point_in k)) (bounds_of t))
    && (t.block == k.block && (are_close gap (point_in k) t.a && are_close gap (point_in k) t.b))) segments)) (point_in k) q.a

-- The same points are joined to points with equal keys.
same_around : (gap : ℕ) (segments : List LineSegment) (p o q : LineSegment) → is_same_point_key (point_key_of p) (point_key_of o) ≡ true
    → are_joined_around gap segments p q ≡ are_joined_around gap segments o q
same_around gap segments p o q same = ap (joined_near gap segments q) (same_keys (point_key_of p) (point_key_of o) same)

some_same : (a b : List Place) → ◌≡◌ {A = Option (List Place)} (Some a) (Some b) → a ≡ b
some_same a b is = cc

not_none : (a : List Place) → ◌≡◌ {A = Option (List Place)} None (Some a) → ⊥
not_none a is = cc

bool_same : (a b : Bool) → ◌≡◌ {A = Option Bool} (Some a) (Some b) → a ≡ b
bool_same a b is = cc

no_bool : (a : Bool) → ◌≡◌ {A = Option Bool} None (Some a) → ⊥
no_bool a is = cc

-- The points joined to one point more are kept.
pub one_more_known : (gap : ℕ) (segments : List LineSegment) (p : LineSegment) (places : List Place)
    (old new : PointKey → Option (List Place)) → AreJoinedPoints gap segments p places
    → ((other : PointKey) → new other ≡ cond (is_same_point_key (point_key_of p) other) (Some places) (old other))
    → StaysKnown gap segments old new
one_more_known gap segments p places old new are updates known o some there q =
    by_test (is_same_point_key (point_key_of p) (point_key_of o)) refl
  where
    by_test : (b : Bool) → is_same_point_key (point_key_of p) (point_key_of o) ≡ b
        → is_among some q.a ≡ are_joined_around gap segments o q
    by_test true same =
        ap (λ (all : List Place). is_among all q.a) (sym (some_same places some (sym (updates (point_key_of o)
        ∙ ap (λ (b : Bool). cond b (Some places) (old (point_key_of o))) same) ∙ there)))
        ∙ are q ∙ same_around gap segments p o q same
    by_test false differs =
        known o some (sym (updates (point_key_of o) ∙ ap (λ (b : Bool). cond b (Some places) (old (point_key_of o))) differs) ∙ there) q

-- No points are kept.
pub none_known : (gap : ℕ) (segments : List LineSegment) (known : PointKey → Option (List Place)) → ((k : PointKey) → known k ≡ None)
    → AreKnown gap segments known
none_known gap segments known none p places there = absurd (not_none places (sym (none (point_key_of p)) ∙ there))

-- A point is among those that are kept for another exactly where segments near that join them.
pub known_joins : (gap : ℕ) (segments : List LineSegment) (known : PointKey → Option (List Place)) (p q : LineSegment)
    (joined : Bool) → AreKnown gap segments known
    → option_map (λ places. is_among places q.a) (known (point_key_of p)) ≡ Some joined
    → joined ≡ are_joined_around gap segments p q
known_joins gap segments known p q joined are there = by_places (known (point_key_of p)) refl there
  where
    by_places : (o : Option (List Place)) → known (point_key_of p) ≡ o
        → option_map (λ places. is_among places q.a) o ≡ Some joined → joined ≡ are_joined_around gap segments p q
    by_places None none is = absurd (no_bool joined is)
    by_places (Some places) kept is = sym (bool_same (is_among places q.a) joined is) ∙ are p places kept q
