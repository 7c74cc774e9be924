-- Worked joints and joined points, and what is stated of points that are put to others.
use Rattle.std.proofs.Common.{◌≡◌, ◌||◌, ◌<◌, ℕ, pos, Bool, true, false, List, [], ◌∷◌, length, refl}
use Rattle.design_model.specs.declared.point.Point.{Point}
use Rattle.drawing_review.specs.Frames.{grid_point}
use Rattle.drawing_review.specs.Meetings.{is_same_grid_point}
use Rattle.drawing_review.specs.declared.grid_point.GridPoint.{GridPoint}
use Rattle.drawing_review.specs.declared.joined_points.Place.{Place}
use Rattle.drawing_review.specs.declared.joints.Joint.{Joint}
use Rattle.drawing_review.specs.JoinedPoints.{AreJoinedEnds, AreTestedAlike, HasNoEnd, IsGrowing, PutsEnds, PutsOther, Grows, is_among, is_same_place, place_of}
use Rattle.drawing_review.specs.Joints.{are_joined_by}

abbrev at : ℕ → ℕ → Point
at x y = record { x = pos x; y = pos y }

-- a point in a row, and a joint there
abbrev along : ℕ → GridPoint
along x = grid_point (at x 0)

abbrev joint : (a b : ℕ) → Joint
joint a b = record { a = along a; b = along b }

-- coordinates count from -30,000
pub known_place : place_of (grid_point (at 4 7)) ≡ record { x = 30004; y = 30007 }
known_place = refl

pub known_among : (is_among (place_of (along 3) ∷ place_of (along 5) ∷ []) (along 5) ≡ true)
    × (is_among (place_of (along 3) ∷ place_of (along 5) ∷ []) (along 4) ≡ false)
    × (is_same_place (place_of (grid_point (at 4 7))) (place_of (grid_point (at 4 6))) ≡ false)
known_among = (refl, refl, refl)

-- joints from 1 to 2, from 5 to 3 and from 2 to 3 join 1 and 5, in any order, and don't join 1 and 4
pub known_joined : (are_joined_by (joint 1 2 ∷ joint 5 3 ∷ joint 2 3 ∷ []) (along 1) (along 5) ≡ true)
    × (are_joined_by (joint 2 3 ∷ joint 5 3 ∷ joint 1 2 ∷ []) (along 5) (along 1) ≡ true)
    × (are_joined_by (joint 1 2 ∷ joint 5 3 ∷ []) (along 1) (along 5) ≡ false)
    × (are_joined_by (joint 1 2 ∷ joint 5 3 ∷ joint 2 3 ∷ []) (along 1) (along 4) ≡ false)
known_joined = (refl, refl, refl, refl)

-- what is stated while points spread, a field each
pub known_growing : (joints left later : List Joint) (p : GridPoint) (places : List Place) → IsGrowing joints p left later places
    → (is_among places p ≡ true) × ((q : GridPoint) → is_among places q ≡ true → are_joined_by joints p q ≡ true)
    × AreJoinedEnds joints left × AreJoinedEnds joints later
    × ((test : GridPoint → Bool) → ((q : GridPoint) → is_among places q ≡ true → test q ≡ true)
    → AreTestedAlike test left → AreTestedAlike test later → AreTestedAlike test joints)
known_growing joints left later p places is = (is.begins, is.joined, is.of_left, is.of_later, is.closed)

pub known_ends : (joints : List Joint) (test : GridPoint → Bool) → AreJoinedEnds joints (joint 1 2 ∷ [])
    → AreTestedAlike test (joint 1 2 ∷ joint 3 4 ∷ [])
    → (are_joined_by joints (along 1) (along 2) ≡ true) × (test (along 1) ≡ test (along 2)) × (test (along 3) ≡ test (along 4))
known_ends joints test joined alike = (joined.0, alike.0, alike.1.0)

pub known_puts : (t : Joint) (old new : List Place) → PutsEnds t old new → ((is_among old t.a || is_among old t.b) ≡ true)
    × ((q : GridPoint) → is_among new q ≡ (is_among old q || (is_same_grid_point t.a q || is_same_grid_point t.b q)))
known_puts t old new puts = (puts.had, puts.puts)

pub known_none : (t : Joint) (old new : List Place) → HasNoEnd t old new
    → (new ≡ old) × (is_among old t.a ≡ false) × (is_among old t.b ≡ false)
known_none t old new none = (none.stays, none.first, none.second)

pub known_other : (t : Joint) (old new : List Place) → (PutsOther t old new true → PutsEnds t old new)
    × (PutsOther t old new false → HasNoEnd t old new)
known_other t old new = (λ puts. puts, λ none. none)

pub known_grows : (left later : List Joint) (old new : List Place) (has_grown : Bool) → Grows left old has_grown later new
    → (has_grown ≡ true → length later < length left) × (has_grown ≡ false → AreTestedAlike (is_among new) later)
    × ((joints : List Joint) (p : GridPoint) → IsGrowing joints p left [] old → IsGrowing joints p later [] new)
known_grows left later old new has_grown grows = (grows.shorter, grows.ended, grows.kept)
