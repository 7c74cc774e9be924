-- Worked values of how far lines are from themselves as drawn, in tenths of a millimetre.
use Rattle.std.proofs.Common.{◌≡◌, ℕ, pos, true, false, inl, inr, List, [], ◌∷◌, Some, refl, ap, subst, sym}
use Rattle.design_model.specs.declared.point.Point.{Point}
use Rattle.line_meetings.specs.Telling.{told}
use Rattle.line_sections.specs.Lines.{LineValue}
use Rattle.line_sections.specs.Sections.{lines_through}
use Rattle.meeting_rounds.specs.NearLines.{StaysNear, StaysNearDrawn, are_within, is_near_drawn}
use Rattle.meeting_rounds.specs.Rounds.{after_rounds}
use Rattle.meeting_rounds.specs.TrackedLines.{lines_as_worked, tracked_lines}

abbrev at : ℕ → ℕ → Point
at x y = record { x = pos x; y = pos y }

abbrev ends : List Point
ends = at 0 0 ∷ at 40 0 ∷ []

-- with the gap 1: a point goes 3 away, one is listed 2 away, and one stands for two points as drawn
pub known_near : StaysNearDrawn 1 ends (at 3 0 ∷ at 20 2 ∷ at 40 3 ∷ [])
    × StaysNearDrawn 1 (at 0 0 ∷ at 40 0 ∷ at 40 5 ∷ []) (at 0 0 ∷ at 41 2 ∷ [])
known_near = (
  inr (at 0 0, [], at 40 0 ∷ [], refl, refl, inl (refl, inr (at 40 0, [], [], refl, refl, refl))),
  inr (at 0 0, [], at 40 0 ∷ at 40 5 ∷ [], refl, refl, inr (at 40 0, at 40 5 ∷ [], [], refl, refl, refl)),
)

-- the first of some points
abbrev first_or : Point → List Point → Point
first_or p [] = p
first_or p (q ∷ rest) = q

-- one more is too far for a point that stands for one as drawn
pub known_far : StaysNearDrawn 1 ends (at 4 0 ∷ at 40 0 ∷ []) → ⊥
known_far (inl (never, after)) = absurd never
known_far (inr (q, run, rest, is, near, after)) =
    apart (subst (λ (p : Point). are_within 3 (at 4 0) (p ∷ run) ≡ true) (sym (ap (first_or q) is)) near)
  where
    apart : false ≡ true → ⊥
    apart is = cc

-- and for a listed one
pub known_beside : StaysNear 3 2 (Some (at 0 0)) (at 40 0 ∷ []) (at 20 3 ∷ at 40 0 ∷ []) → ⊥
known_beside (inl (near, after)) = cc
known_beside (inr (q, run, rest, is, near, after)) =
    apart (subst (λ (p : Point). are_within 3 (at 20 3) (p ∷ run) ≡ true) (sym (ap (first_or q) is)) near)
  where
    apart : false ≡ true → ⊥
    apart is = cc

-- and no point as drawn is without one
pub known_all : StaysNearDrawn 1 ends (at 0 0 ∷ []) → ⊥
known_all (inl (never, after)) = absurd never
known_all (inr (q, [], rest, is, near, after)) = cc
known_all (inr (q, r ∷ run, rest, is, near, after)) = cc

-- a point that goes as far as it may: 3 in three rounds with the gap 1, from place to place
abbrev fan : List LineValue
fan = lines_through 0 ((at 30 30 ∷ at 0 30 ∷ []) ∷ (at 31 30 ∷ at 20 0 ∷ []) ∷ (at 33 31 ∷ at 50 60 ∷ []) ∷ (at 32 30 ∷ at 40 0 ∷ [])
    ∷ (at 33 30 ∷ at 60 30 ∷ []) ∷ [])

pub known_farthest : lines_as_worked (after_rounds 3 false 1 (record { lines = tracked_lines fan; starts = []; ends = [] })).lines
    ≡ lines_through 0 ((at 33 30 ∷ at 0 30 ∷ []) ∷ (at 33 30 ∷ at 20 0 ∷ []) ∷ (at 33 30 ∷ at 50 60 ∷ []) ∷ (at 33 30 ∷ at 40 0 ∷ [])
    ∷ (at 33 30 ∷ at 60 30 ∷ []) ∷ [])
unfolding told
known_farthest = refl

-- a point near a segment of a line, or near one of its points
pub known_points : (is_near_drawn 1 ends (at 20 2) ≡ true) × (is_near_drawn 1 ends (at 20 3) ≡ false)
    × (is_near_drawn 1 ends (at 43 3) ≡ true) × (is_near_drawn 1 ends (at 44 0) ≡ false)
    × (is_near_drawn 1 (at 0 0 ∷ at 40 0 ∷ at 40 30 ∷ []) (at 42 15) ≡ true)
    × (is_near_drawn 1 (at 0 0 ∷ at 40 0 ∷ at 40 30 ∷ []) (at 20 15) ≡ false)
known_points = (refl, refl, refl, refl, refl, refl)
