-- Worked values of ties. Points are in tenths of a millimetre.
use Rattle.std.proofs.Common.{◌≡◌, ◌≤◌, ℕ, ℤ, pos, negsuc, true, false, [], ◌∷◌, map, refl, arith}
use Rattle.design_model.specs.declared.act.Act.TheVariants as act
use Rattle.design_model.specs.Lengths.{square_of}
use Rattle.design_review.specs.declared.thread_needles.ThreadNeedle.{ThreadNeedle}
use Rattle.sewing_edits.specs.declared.thread_edits.ThreadEdit.TheVariants as edit
use Rattle.sewing_edits.specs.declared.tie_points.TheConstants.{MAX_TIE, MAX_TIE_LENGTH, MIN_TIE, TIE_REACH}
use Rattle.sewing_edits.specs.ThreadRanges.{AreNeedlesInRange, IsThreadEdit}
use Rattle.sewing_edits.specs.ThreadTies.{bared_acts, bared_thread, has_own_tie, sewn_to, tied_acts, tied_thread}
use Rattle.sewing_edits.specs.TiePoints.{halfway_point, point_beside, tie_point}
use Rattle.sewing_edits.specs.TieTheorems.{AreNearFirst, IsTieLength, are_spans_within, are_threads_tied, count_at}
use Rattle.sewing_edits.proofs.Names.{Act, Point}

-- the point at those coordinates
abbrev at : ℤ → ℤ → Point
at x y = record { x = x; y = y }

-- a needle of a thread on the axis that points to the right, sewn or floated to
abbrev to : ℕ → ThreadNeedle
to x = sewn_to (at (pos x) (pos 0))

abbrev over : ℕ → ThreadNeedle
over x = record { at = at (pos x) (pos 0); float = true }

-- a tie is from 0.8 to 1.8 mm long when it is given, and is taken away up to 2 mm, as far as ties reach
pub known_range : (MIN_TIE ≡ 8) × (MAX_TIE ≡ 18) × (MAX_TIE_LENGTH ≡ 20) × (TIE_REACH ≡ 20)
known_range = (refl, refl, refl, refl)

-- Along a stitch to the right; along one by 30 and 40 (3-4-5), by steps of a tenth of its longer axis; and past two short stitches,
-- the second of which is a float.
pub known_tie_point : (tie_point 10 (at (pos 0) (pos 0)) (to 10 ∷ []) ≡ at (pos 10) (pos 0))
    × (tie_point 10 (at (pos 0) (pos 0)) (sewn_to (at (negsuc 29) (pos 40)) ∷ []) ≡ at (negsuc 5) (pos 8))
    × (tie_point 8 (at (pos 0) (pos 0)) (sewn_to (at (negsuc 29) (pos 40)) ∷ []) ≡ at (negsuc 4) (pos 7))
    × (tie_point 10 (at (pos 0) (pos 0)) (to 4 ∷ record { at = at (pos 4) (negsuc 4); float = true }
    ∷ sewn_to (at (pos 30) (negsuc 4)) ∷ []) ≡ at (pos 9) (negsuc 4))
unfolding square_of
known_tie_point = (refl, refl, refl, refl)

-- A half goes to the greater coordinate: 3.5 to 4 and -3.5 to -3, so that by 7 a stitch is 0.8 mm long on one side alone.
pub known_halves : (tie_point 8 (at (pos 0) (pos 0)) (sewn_to (at (pos 20) (pos 10)) ∷ []) ≡ at (pos 7) (pos 4))
    × (tie_point 8 (at (pos 0) (pos 0)) (sewn_to (at (negsuc 19) (negsuc 9)) ∷ []) ≡ at (negsuc 7) (negsuc 3))
    × (tie_point 8 (at (pos 0) (pos 0)) (sewn_to (at (negsuc 19) (pos 10)) ∷ []) ≡ at (negsuc 6) (pos 4))
    × (tie_point 9 (at (pos 0) (pos 0)) (sewn_to (at (negsuc 9) (negsuc 4)) ∷ []) ≡ at (negsuc 8) (negsuc 3))
unfolding square_of
known_halves = (refl, refl, refl, refl)

-- Beside p where the thread stays too near: to the left of a point right of the origin, and to the right of another one.
pub known_beside : (tie_point 10 (at (pos 5) (pos 6)) [] ≡ at (negsuc 4) (pos 6))
    × (tie_point 8 (at (negsuc 2) (pos 1)) (sewn_to (at (negsuc 0) (pos 1)) ∷ []) ≡ at (pos 5) (pos 1))
    × (point_beside 8 (at (pos 0) (pos 2)) ≡ at (pos 8) (pos 2)) × (point_beside 8 (at (pos 1) (pos 2)) ≡ at (negsuc 6) (pos 2))
unfolding square_of
known_beside = (refl, refl, refl, refl)

-- halfway, rounded down on each axis: from 0 to -9 and 7, from 3 and -4 to -6 and 3
pub known_middle : (halfway_point (at (pos 0) (pos 0)) (at (negsuc 8) (pos 7)) ≡ at (negsuc 4) (pos 3))
    × (halfway_point (at (pos 3) (negsuc 3)) (at (negsuc 5) (pos 3)) ≡ at (negsuc 1) (negsuc 0))
known_middle = (refl, refl)

-- A thread of one needle has one tie, and another one two. What is tied at an end gets none there.
pub known_tied : (tied_thread 10 (to 0 ∷ []) ≡ map to (0 ∷ 5 ∷ 10 ∷ 5 ∷ 0 ∷ []))
    × (tied_thread 10 (map to (0 ∷ 14 ∷ [])) ≡ map to (0 ∷ 5 ∷ 10 ∷ 5 ∷ 0 ∷ 14 ∷ 9 ∷ 4 ∷ 9 ∷ 14 ∷ []))
    × (tied_thread 10 (to 0 ∷ over 10 ∷ to 14 ∷ [])
    ≡ to 0 ∷ to 5 ∷ to 10 ∷ to 5 ∷ to 0 ∷ over 10 ∷ map to (14 ∷ 9 ∷ 4 ∷ 9 ∷ 14 ∷ []))
    × (tied_thread 10 (map to (0 ∷ 5 ∷ 0 ∷ 5 ∷ [])) ≡ map to (0 ∷ 5 ∷ 0 ∷ 5 ∷ []))
    × (tied_thread 10 (map to (0 ∷ 5 ∷ 0 ∷ 5 ∷ 40 ∷ [])) ≡ map to (0 ∷ 5 ∷ 0 ∷ 5 ∷ 40 ∷ 35 ∷ 30 ∷ 35 ∷ 40 ∷ []))
    × (tied_thread 10 [] ≡ [])
unfolding square_of
known_tied = (refl, refl, refl, refl, refl, refl)

-- A tie is taken away at each end, up to 2 mm: not one of 2.1 mm or 0.7 mm, not there and back to q alone, not one with a float,
-- and not one whose h is elsewhere.
pub known_bared : (bared_thread (map to (0 ∷ 5 ∷ 10 ∷ 5 ∷ 0 ∷ 14 ∷ 9 ∷ 4 ∷ 9 ∷ 14 ∷ [])) ≡ map to (0 ∷ 14 ∷ []))
    × (bared_thread (map to (0 ∷ 5 ∷ 10 ∷ 5 ∷ 0 ∷ [])) ≡ to 0 ∷ [])
    × (bared_thread (map to (0 ∷ 10 ∷ 20 ∷ 10 ∷ 0 ∷ 90 ∷ [])) ≡ map to (0 ∷ 90 ∷ []))
    × (has_own_tie (map to (0 ∷ 10 ∷ 21 ∷ 10 ∷ 0 ∷ 90 ∷ [])) ≡ false) × (has_own_tie (map to (0 ∷ 4 ∷ 8 ∷ 4 ∷ 0 ∷ [])) ≡ true)
    × (has_own_tie (map to (0 ∷ 3 ∷ 7 ∷ 3 ∷ 0 ∷ [])) ≡ false) × (has_own_tie (map to (0 ∷ 10 ∷ 0 ∷ 10 ∷ 0 ∷ [])) ≡ false)
    × (has_own_tie (map to (0 ∷ 4 ∷ 10 ∷ 4 ∷ 0 ∷ [])) ≡ false) × (has_own_tie (map to (0 ∷ 5 ∷ 10 ∷ 6 ∷ 0 ∷ [])) ≡ false)
    × (has_own_tie (map to (0 ∷ 5 ∷ 10 ∷ 5 ∷ 1 ∷ [])) ≡ false) × (has_own_tie (to 0 ∷ over 5 ∷ to 10 ∷ to 5 ∷ to 0 ∷ []) ≡ false)
    × (has_own_tie (to 0 ∷ to 5 ∷ over 10 ∷ to 5 ∷ to 0 ∷ []) ≡ false) × (has_own_tie (to 0 ∷ to 5 ∷ to 10 ∷ over 5 ∷ to 0 ∷ []) ≡ false)
    × (has_own_tie (to 0 ∷ to 5 ∷ to 10 ∷ to 5 ∷ over 0 ∷ []) ≡ false) × (has_own_tie (over 0 ∷ map to (5 ∷ 10 ∷ 5 ∷ 0 ∷ [])) ≡ true)
unfolding square_of
known_bared = (refl, refl, refl, refl, refl, refl, refl, refl, refl, refl, refl, refl, refl, refl, refl)

-- a needle act, sewn or carried to
abbrev sewn : ℕ → Act
sewn x = act.Needle (at (pos x) (pos 0)) false

-- trims and stops end a thread, and stay; a design without a needle too
pub known_acts : (tied_acts 10 (sewn 0 ∷ act.Trim ∷ act.Stop ∷ act.Stop ∷ sewn 50 ∷ [])
    ≡ sewn 0 ∷ sewn 5 ∷ sewn 10 ∷ sewn 5 ∷ sewn 0 ∷ act.Trim ∷ act.Stop ∷ act.Stop
    ∷ sewn 50 ∷ sewn 45 ∷ sewn 40 ∷ sewn 45 ∷ sewn 50 ∷ [])
    × (bared_acts (sewn 0 ∷ sewn 5 ∷ sewn 10 ∷ sewn 5 ∷ sewn 0 ∷ act.Stop ∷ sewn 50 ∷ []) ≡ sewn 0 ∷ act.Stop ∷ sewn 50 ∷ [])
    × (tied_acts 10 (act.Stop ∷ []) ≡ act.Stop ∷ []) × (bared_acts [] ≡ [])
unfolding square_of
known_acts = (refl, refl, refl, refl)

-- lengths below or above the range are none
pub known_short : IsTieLength 7 → ⊥
known_short is = omega (arith, is.least)

pub known_long : (IsTieLength 19 → ⊥) × (IsThreadEdit (edit.Tie 19) → ⊥) × IsThreadEdit edit.Bare
known_long = (λ is. omega (arith, is.most), λ is. omega (arith, is), tt)

-- a needle out of its range
pub known_out : AreNeedlesInRange (to 30000 ∷ to 30001 ∷ []) → ⊥
known_out in_range = cc

-- needles that are counted in a point, and not beside it
pub known_count : count_at (at (pos 5) (pos 0)) (map to (0 ∷ 5 ∷ 10 ∷ 5 ∷ 6 ∷ [])) ≡ 2
known_count = refl

-- spans of 10 and of 30 as a float; the first needle has none
pub known_spans : (are_spans_within 900 (to 5 ∷ to 15 ∷ over 45 ∷ []) ≡ true)
    × (are_spans_within 899 (to 5 ∷ to 15 ∷ over 45 ∷ []) ≡ false) × (are_spans_within 0 (to 5 ∷ []) ≡ true)
unfolding square_of
known_spans = (refl, refl, refl)

-- both ends of each thread are tied, or one isn't
pub known_threads_tied : (are_threads_tied [] (sewn 0 ∷ sewn 5 ∷ sewn 0 ∷ sewn 5 ∷ act.Trim ∷ act.Stop ∷ []) ≡ true)
    × (are_threads_tied [] (sewn 0 ∷ sewn 5 ∷ sewn 0 ∷ sewn 5 ∷ act.Trim ∷ sewn 9 ∷ []) ≡ false)
    × (are_threads_tied [] (sewn 0 ∷ sewn 5 ∷ sewn 0 ∷ sewn 5 ∷ sewn 90 ∷ act.Stop ∷ []) ≡ false)
    × (are_threads_tied [] (sewn 90 ∷ sewn 5 ∷ sewn 0 ∷ sewn 5 ∷ sewn 0 ∷ act.Stop ∷ []) ≡ false)
unfolding square_of
known_threads_tied = (refl, refl, refl, refl)

-- no needle of a tie is 2.1 mm away, and none is put into a thread without a needle
pub known_far : AreNearFirst (to 0 ∷ []) (to 21 ∷ []) → ⊥
unfolding square_of
known_far near = far (near 0 (to 0) (omega arith)).1
  where
    far : 441 ≤ 400 → ⊥
    far le = omega (arith, le)

pub known_none_near : AreNearFirst [] (to 0 ∷ []) → ⊥
known_none_near none = cc
