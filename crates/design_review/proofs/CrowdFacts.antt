-- Worked crowds by keys, and what a review knows and notes.
use Rattle.std.proofs.Common.{◌≡◌, ◌++◌, ◌==◌, ℕ, pos, Bool, true, false, IsTrue, List, [], ◌∷◌, Option, Some, None, map, refl, sym, arith, true≢false}
use Rattle.std.specs.HashMap.{get}
use Rattle.design_model.specs.Lengths.{square_of}
use Rattle.design_model.specs.Points.{is_point_within}
use Rattle.design_model.specs.declared.act.Act.{Act}
use Rattle.design_model.specs.declared.act.Act.TheVariants as act
use Rattle.design_model.specs.declared.point.Point.{Point}
use Rattle.design_review.specs.Crowds.{AreCrowds, AreKeysOf, crowd_at, crowd_of, has_key, is_near_any, near_keys}
use Rattle.design_review.specs.KnownReviews.{IsNeedleAmong, IsPieceWithin, KnowsCrowds, NotesCrowd, PutsAct, known_review}
use Rattle.design_review.specs.NeedleKeys.{key_of}
use Rattle.design_review.specs.Places.{Review, places_of_act, reported_after_act}
use Rattle.design_review.specs.SewnActs.{HasSewn, nothing_sewn}
use Rattle.design_review.specs.declared.place.DesignPlace.{DesignPlace}
use Rattle.design_review.specs.declared.place.DesignPlace.TheVariants as place
use Rattle.design_review.specs.declared.reviewing.Known.{Known}
use Rattle.design_review.specs.declared.sewn.Sewn.{Sewn}
use Rattle.design_review.specs.declared.thread_needles.ThreadNeedle.{ThreadNeedle}

abbrev at : ℕ → Point
at x = record { x = pos x; y = pos 0 }

-- needles at 0, 2 and 50 tenths
abbrev needles : List Point
needles = at 0 ∷ at 2 ∷ at 50 ∷ []

pub known_has_key : map (has_key (5 ∷ 7 ∷ [])) (5 ∷ 6 ∷ 7 ∷ []) ≡ true ∷ false ∷ true ∷ []
known_has_key = refl

-- two keys are near 1000000: enough for two and too few for three, and only a key of the list is crowded
abbrev some : List ℕ
some = 1000000 ∷ 1000002 ∷ 1000003 ∷ []

pub known_crowd_at : crowd_at 2 some some 1000000 ∷ crowd_at 3 some some 1000000 ∷ crowd_at 2 (1000002 ∷ []) some 1000000 ∷ []
    ≡ Some 2 ∷ None ∷ None ∷ []
known_crowd_at = refl

-- the needle at 2 is in one hole with that at 0, and that at 50 with itself alone
pub known_crowd_of : crowd_of 2 needles (at 2) ∷ crowd_of 3 needles (at 2) ∷ crowd_of 2 needles (at 50) ∷ crowd_of 0 needles (at 2) ∷ []
    ≡ Some 2 ∷ None ∷ None ∷ None ∷ []
unfolding square_of
known_crowd_of = refl

pub known_crowds : (crowds : ℕ → Option ℕ) → AreCrowds 2 needles crowds
    → (crowds (key_of (at 2)) ≡ Some 2) × (crowds (key_of (at 50)) ≡ None)
unfolding square_of
known_crowds crowds are = (are (at 2) refl refl, are (at 50) refl refl)

-- keys of points are theirs and no others, and the points are in range
pub known_keys : (keys : ℕ → Bool) → AreKeysOf needles keys → (keys (key_of (at 50)) ≡ true) × (keys (key_of (at 51)) ≡ false)
known_keys keys are = (are.same (key_of (at 50)), are.same (key_of (at 51)))

pub known_keys_out_of_range : (keys : ℕ → Bool) → AreKeysOf (at 50 ∷ at 30001 ∷ []) keys → ⊥
known_keys_out_of_range keys are = true≢false (sym are.in_range)

-- a hole reaches two columns either way, and in the outermost ones a single key
pub known_near_keys : near_keys 1000000 ≡ 868928 ∷ 934463 ∷ 934464 ∷ 934465 ∷ 999998 ∷ 999999 ∷ 1000000 ∷ 1000001 ∷ 1000002
    ∷ 1065535 ∷ 1065536 ∷ 1065537 ∷ 1131072 ∷ []
known_near_keys = refl

pub known_near_any : (is_near_any (λ key. key == 934464) 1000000 ≡ true) × (is_near_any (λ key. key == 934466) 1000000 ≡ false)
known_near_any = (refl, refl)

-- what the code knows is a review, and the crowds of its needles
pub known_known : (known : Known) → known_review known
    ≡ record { limits = known.limits; needles = known.needles.now; threads = known.threads.now; moves = known.moves.now }
known_known known = refl

pub known_known_crowds : (known : Known) (p : Point) → KnowsCrowds known → IsTrue (is_point_within 30000 p)
    → IsTrue (has_key (map key_of known.needles.now) (key_of p))
    → get (λ a b. a == b) known.crowds.now (key_of p) ≡ crowd_of known.limits.hole known.needles.now p
known_known_crowds known p knows near is = knows p near is

-- a needle that is sewn to
abbrev sewn_to : Point → ThreadNeedle
sewn_to p = record { at = p; float = false }

-- a piece is within the needles
pub known_piece_end : IsPieceWithin (map sewn_to needles) (record nothing_sewn { needles = 4; before_piece = 1 }) → ⊥
known_piece_end is = omega (arith, is.end)

pub known_piece_start : IsPieceWithin (map sewn_to needles) (record nothing_sewn { needles = 2; before_piece = 3 }) → ⊥
known_piece_start is = omega (arith, is.start)

-- no more needles, pieces or stops are sewn than there are acts
pub known_sewn : (HasSewn 5 (record nothing_sewn { needles = 6 }) → ⊥) ×
    (HasSewn 5 (record nothing_sewn { needles = 2; before_piece = 3 }) → ⊥)
    × (HasSewn 5 (record nothing_sewn { pieces = 6 }) → ⊥) × (HasSewn 5 (record nothing_sewn { stops = 6 }) → ⊥)
known_sewn = (
  λ has. omega (arith, has.needles),
  λ has. omega (arith, has.before_piece),
  λ has. omega (arith, has.pieces),
  λ has. omega (arith, has.stops),
)

-- a needle is one of the needles; a trim and a stop have none
pub known_among : IsNeedleAmong needles (act.Needle (at 50) true) × IsNeedleAmong needles act.Trim × IsNeedleAmong needles act.Stop
known_among = (refl, tt, tt)

pub known_not_among : IsNeedleAmong needles (act.Needle (at 51) true) → ⊥
known_not_among is = true≢false (sym is)

-- the places of an act come last, and what is reported after it is noted by its key
pub known_puts : (review : Review) (sewn : Sewn) (old new : List DesignPlace) (keys : ℕ → Bool) (reported : List Point) (a : Act)
    → PutsAct review sewn 7 a old new keys reported
    → (new ≡ old ++ places_of_act review reported sewn 7 a)
    × ((key : ℕ) → keys key ≡ has_key (map key_of (reported_after_act review reported a)) key)
known_puts review sewn old new keys reported a puts = (puts.places, puts.noted.same)

-- A crowded needle is a place, and is noted, unless one near it is.
pub known_noted : (old new : List DesignPlace) (after : ℕ → Bool) → NotesCrowd 9 1000000 4 old new (λ key. key == 7) after
    → (new ≡ old ++ place.Hole 9 4 ∷ []) × (after 1000000 ≡ true) × (after 7 ≡ true) × (after 8 ≡ false)
known_noted old new after notes = (notes.places, notes.noted 1000000, notes.noted 7, notes.noted 8)

pub known_near_noted : (old new : List DesignPlace) (after : ℕ → Bool) → NotesCrowd 9 1000000 4 old new (λ key. key == 1000002) after
    → (new ≡ old ++ []) × (after 1000000 ≡ false) × (after 1000002 ≡ true)
known_near_noted old new after notes = (notes.places, notes.noted 1000000, notes.noted 1000002)
