-- The points that joints join to a point, as they are found: from the point on, the other end of
-- each joint that has an end among them.
use Rattle.std.specs.Prelude.{◌≡◌, ℕ, ◌<◌, ◌==◌, Bool, true, false, ◌&&◌, ◌||◌, List, [], ◌∷◌, length}
use Rattle.std.specs.List.{list_any}
use Rattle.drawing_review.specs.declared.grid_point.GridPoint.{GridPoint}
use Rattle.drawing_review.specs.Meetings.{is_same_grid_point}
use Rattle.drawing_review.specs.declared.joined_points.Place.{Place}
use Rattle.drawing_review.specs.declared.joints.Joint.{Joint}
use Rattle.drawing_review.specs.Joints.{are_joined_by}

-- The place of a point.
abbrev pub place_of : GridPoint → Place
place_of p = record { x = p.x; y = p.y }

-- Two places are the same.
abbrev pub is_same_place : Place → Place → Bool
is_same_place k l = k.x == l.x && k.y == l.y

-- A point is among some.
abbrev pub is_among : List Place → GridPoint → Bool
is_among places p = list_any (is_same_place (place_of p)) places

-- Both ends of each joint pass a test, or neither does.
abbrev pub AreTestedAlike : (GridPoint → Bool) → List Joint → Type 0
AreTestedAlike test [] = Unit {0}
AreTestedAlike test (t ∷ rest) = (test t.a ≡ test t.b) × AreTestedAlike test rest

-- Joints join the ends of each of some joints.
abbrev pub AreJoinedEnds : (joints some : List Joint) → Type 0
AreJoinedEnds joints [] = Unit {0}
AreJoinedEnds joints (t ∷ rest) =
    (are_joined_by joints t.a t.b ≡ true) × AreJoinedEnds joints rest

-- Points that joints join to p, where some joints are left and some were left for later. A test
-- that the points pass, and those joints alike, tests both ends of all joints alike.
pub record IsGrowing (joints : List Joint) (p : GridPoint) (left later : List Joint)
    (places : List Place) : Type 0 where
  pub begins : is_among places p ≡ true
  pub joined : (q : GridPoint) → is_among places q ≡ true → are_joined_by joints p q ≡ true
  pub of_left : AreJoinedEnds joints left
  pub of_later : AreJoinedEnds joints later
  pub closed : (test : GridPoint → Bool)
      → ((q : GridPoint) → is_among places q ≡ true → test q ≡ true)
      → AreTestedAlike test left → AreTestedAlike test later → AreTestedAlike test joints

-- The ends of a joint were put to points, one of which was among them.
pub record PutsEnds (t : Joint) (old new : List Place) : Type 0 where
  pub had : (is_among old t.a || is_among old t.b) ≡ true
  pub puts : (q : GridPoint) → is_among new q
      ≡ (is_among old q || (is_same_grid_point t.a q || is_same_grid_point t.b q))

-- No end of a joint is among points, and they stay.
pub record HasNoEnd (t : Joint) (old new : List Place) : Type 0 where
  pub stays : new ≡ old
  pub first : is_among old t.a ≡ false
  pub second : is_among old t.b ≡ false

-- The other end of a joint is put to points where one is among them.
abbrev pub PutsOther : Joint → (old new : List Place) → (has : Bool) → Type 0
PutsOther t old new true = PutsEnds t old new
PutsOther t old new false = HasNoEnd t old new

-- The other ends of joints are put to points. Where none is, those left have both ends there or
-- none.
pub record Grows (left : List Joint) (old : List Place) (has_grown : Bool) (later : List Joint)
    (new : List Place) : Type 0 where
  pub kept : (joints : List Joint) (p : GridPoint) → IsGrowing joints p left [] old
      → IsGrowing joints p later [] new
  pub shorter : has_grown ≡ true → length later < length left
  pub ended : has_grown ≡ false → AreTestedAlike (is_among new) later
