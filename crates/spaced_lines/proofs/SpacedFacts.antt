-- Worked values of spaced lines, in tenths of a millimetre.
use Rattle.std.proofs.Common.{◌≡◌, ℕ, ℤ, ◌+◌, true, false, pos, ap, Some, None, List, [], ◌∷◌, map, refl, replicate}
use Rattle.design_model.specs.Lengths.{square_of}
use Rattle.spaced_lines.specs.SpacingRules.{segment_between}
use Rattle.spaced_lines.proofs.Names.{Best, IsChoice, LineValue, Point, SpacingRule, all_sections, bests_of, end_spots, is_better, is_same_point, is_stitch_for, leeway_of, lines_through, may_leave_out, room_of, rule_of, spaced_lines, spaced_points, square_sum, steps_of_line, stitch_count}

abbrev at : ℕ → ℕ → Point
at x y = record { x = pos x; y = pos y }

-- the rule of a step where nothing else is given
abbrev rule : ℕ → SpacingRule
rule step = rule_of (record { length = None; leeway = None }) step

-- a tenth of a step, and at least 1
pub known_leeways : (leeway_of 9 ≡ 1) × (leeway_of 19 ≡ 1) × (leeway_of 20 ≡ 2) × (leeway_of 39 ≡ 3)
known_leeways = (refl, refl, refl, refl)

-- what isn't given depends on the step
pub known_rules : (rule 30 ≡ record { step = 30; square = 1800; leeway = 3 })
    × (rule_of (record { length = Some 25; leeway = Some 0 }) 30 ≡ record { step = 30; square = 625; leeway = 0 })
    × (rule_of (record { length = Some 25; leeway = None }) 40 ≡ record { step = 40; square = 625; leeway = 4 })
    × (rule_of (record { length = None; leeway = Some 7 }) 20 ≡ record { step = 20; square = 800; leeway = 7 })
known_rules = (refl, refl, refl, refl)

-- the segment by itself has no place among others
pub known_segment : segment_between (at 1 9) (at 4 2) ≡ record {
  block = 0;
  line = 0;
  number = 0;
  is_first = false;
  is_last = false;
  from = at 1 9;
  to = at 4 2;
  a = record { x = 30001; y = 30009 };
  b = record { x = 30004; y = 30002 };
  frame = record { left = 30001; right = 30004; top = 30002; bottom = 30009 };
}
known_segment = refl

-- a stitch may be as long as the step on both axes, and no longer on either; and it has a length
pub known_stitches : (is_stitch_for (rule 30) (at 0 0) (at 30 30) [] ≡ true) × (is_stitch_for (rule 30) (at 0 0) (at 31 0) [] ≡ false)
    × (is_stitch_for (rule 30) (at 0 0) (at 0 31) [] ≡ false) × (is_stitch_for (rule 30) (at 5 5) (at 5 5) [] ≡ false)
unfolding square_of
known_stitches = (refl, refl, refl, refl)

-- a straight length of 30: 18 and 24 are the sides of a triangle with 30, and 19 and 24 of one with more
abbrev straight : SpacingRule
straight = rule_of (record { length = Some 30; leeway = None }) 40

pub known_straight : (is_stitch_for straight (at 0 0) (at 18 24) [] ≡ true) × (is_stitch_for straight (at 0 0) (at 19 24) [] ≡ false)
    × (is_stitch_for straight (at 0 0) (at 30 0) [] ≡ true) × (is_stitch_for straight (at 0 0) (at 31 0) [] ≡ false)
unfolding square_of
known_straight = (refl, refl, refl, refl)

-- between neighbours no point is left out, however far apart; 63 points may be left out, and no more; and none that stays
pub known_left_out : (may_leave_out (λ p. true) (rule 30) (at 0 0) [] (at 99 0) ≡ true)
    × (may_leave_out (λ p. false) (rule 30) (at 0 0) (replicate 63 (at 1 0)) (at 2 0) ≡ true)
    × (may_leave_out (λ p. false) (rule 30) (at 0 0) (replicate 64 (at 1 0)) (at 2 0) ≡ false)
    × (may_leave_out (is_same_point (at 1 0)) (rule 30) (at 0 0) (at 1 0 ∷ []) (at 2 0) ≡ false)
unfolding square_of
known_left_out = (refl, refl, refl, refl)

-- the points before the first one that stays, and no more than 63
pub known_room : (room_of (is_same_point (at 3 0)) (at 1 0 ∷ at 2 0 ∷ at 3 0 ∷ at 4 0 ∷ []) ≡ 2)
    × (room_of (λ p. false) (replicate 200 (at 1 0)) ≡ 63)
known_room = (refl, refl)

-- fewer stitches are better whatever their sum, and of as many those with a smaller sum
abbrev choice : ℕ → ℕ → Best
choice stitches squares = record { stitches = stitches; squares = squares; left_out = 0 }

pub known_better : (is_better (choice 2 900) (choice 3 5) ≡ true) × (is_better (choice 3 5) (choice 2 900) ≡ false)
    × (is_better (choice 2 8) (choice 2 9) ≡ true) × (is_better (choice 2 9) (choice 2 9) ≡ false)
known_better = (refl, refl, refl, refl)

-- points 10 apart, with a step of 30: of two stitches as even as they can be, 20 and 20
pub known_spaced_points : (spaced_points (λ p. false) (rule 30) (at 0 0 ∷ at 10 0 ∷ at 20 0 ∷ at 30 0 ∷ at 40 0 ∷ [])
    ≡ at 0 0 ∷ at 20 0 ∷ at 40 0 ∷ [])
    -- points 12 apart: a stitch of 36 would be longer than the step, so they are of 24
    × (spaced_points (λ p. false) (rule 30) (at 0 0 ∷ at 12 0 ∷ at 24 0 ∷ at 36 0 ∷ at 48 0 ∷ [])
    ≡ at 0 0 ∷ at 24 0 ∷ at 48 0 ∷ [])
    -- of 50 two stitches are of 30 and 20
    × (spaced_points (λ p. false) (rule 30) (at 0 0 ∷ at 10 0 ∷ at 20 0 ∷ at 30 0 ∷ at 40 0 ∷ at 50 0 ∷ [])
    ≡ at 0 0 ∷ at 30 0 ∷ at 50 0 ∷ [])
unfolding square_of
known_spaced_points = (refl, refl, refl)

-- the table of the last three points: none, one stitch of 10, and one of 20 that leaves out a point
pub known_table : bests_of (λ p. false) (rule 30) (at 20 0 ∷ at 30 0 ∷ at 40 0 ∷ [])
    ≡ record { stitches = 1; squares = 400; left_out = 1 } ∷ record { stitches = 1; squares = 100; left_out = 0 }
    ∷ record { stitches = 0; squares = 0; left_out = 0 } ∷ []
unfolding square_of
known_table = refl

-- a point 4 beside the stitch, with a leeway of 3, stays, and one 3 beside it is left out
pub known_beside : (spaced_points (λ p. false) (rule 30) (at 0 0 ∷ at 10 4 ∷ at 20 0 ∷ []) ≡ at 0 0 ∷ at 10 4 ∷ at 20 0 ∷ [])
    × (spaced_points (λ p. false) (rule 30) (at 0 0 ∷ at 10 3 ∷ at 20 0 ∷ []) ≡ at 0 0 ∷ at 20 0 ∷ [])
    -- with a leeway of 2 it stays
    × (spaced_points (λ p. false) (rule_of (record { length = None; leeway = Some 2 }) 30) (at 0 0 ∷ at 10 3 ∷ at 20 0 ∷ [])
    ≡ at 0 0 ∷ at 10 3 ∷ at 20 0 ∷ [])
unfolding square_of
known_beside = (refl, refl, refl)

-- a stitch stands for all points between its ends: one to the last point would be too far from the first one left out
pub known_between : (spaced_points (λ p. false) (rule 30) (at 0 10 ∷ at 5 13 ∷ at 10 10 ∷ at 29 5 ∷ [])
    ≡ at 0 10 ∷ at 10 10 ∷ at 29 5 ∷ [])
    -- a point that passes the test stays
    × (spaced_points (is_same_point (at 10 0)) (rule 30) (at 0 0 ∷ at 10 0 ∷ at 20 0 ∷ [])
    ≡ at 0 0 ∷ at 10 0 ∷ at 20 0 ∷ [])
unfolding square_of
known_between = (refl, refl)

-- a point that another line of the block lists stays, inside it or at its end; a block of its own changes nothing
abbrev crossed : ℕ → List Point → List LineValue
crossed block other = record { block = 0; points = at 0 0 ∷ at 10 0 ∷ at 20 0 ∷ [] } ∷ record { block = block; points = other } ∷ []

pub known_shared : (spaced_lines (rule 30) (crossed 0 (at 10 0 ∷ at 10 90 ∷ [])) ≡ crossed 0 (at 10 0 ∷ at 10 90 ∷ []))
    × (spaced_lines (rule 30) (crossed 0 (at 10 90 ∷ at 10 0 ∷ at 40 0 ∷ [])) ≡ crossed 0 (at 10 90 ∷ at 10 0 ∷ at 40 0 ∷ []))
unfolding square_of
known_shared = (refl, refl)

pub known_apart : spaced_lines (rule 30) (crossed 1 (at 10 0 ∷ at 10 90 ∷ []))
    ≡ record { block = 0; points = at 0 0 ∷ at 20 0 ∷ [] } ∷ lines_through 1 ((at 10 0 ∷ at 10 90 ∷ []) ∷ [])
unfolding square_of
known_apart = refl

-- a closed line stays closed, and doesn't become a point
pub known_closed : (spaced_points (λ p. false) (rule 30) (at 0 0 ∷ at 2 0 ∷ at 0 0 ∷ []) ≡ at 0 0 ∷ at 2 0 ∷ at 0 0 ∷ [])
    × (spaced_points (λ p. false) (rule 30) (at 0 0 ∷ at 2 0 ∷ at 9 0 ∷ at 0 0 ∷ []) ≡ at 0 0 ∷ at 9 0 ∷ at 0 0 ∷ [])
unfolding square_of
known_closed = (refl, refl)

-- fewer than three points stay
pub known_short : (spaced_points (λ p. false) (rule 30) [] ≡ []) × (spaced_points (λ p. false) (rule 30) (at 1 2 ∷ []) ≡ at 1 2 ∷ [])
    × (spaced_points (λ p. false) (rule 30) (at 1 2 ∷ at 3 4 ∷ []) ≡ at 1 2 ∷ at 3 4 ∷ [])
known_short = (refl, refl, refl)

-- a choice of points: in order, and for a point 3 beside their stitch
pub known_choice : IsChoice (λ p. false) (rule 30) (at 0 0 ∷ at 20 0 ∷ []) (at 0 0 ∷ at 10 3 ∷ at 20 0 ∷ [])
unfolding square_of
known_choice = (at 20 0 ∷ [], record { out = at 10 3 ∷ []; parts = refl; allowed = refl }, refl)

abbrev first_x : List Point → ℤ
first_x [] = pos 0
first_x (p ∷ rest) = p.x

pub known_disorder : IsChoice (λ p. false) (rule 30) (at 20 0 ∷ at 0 0 ∷ []) (at 0 0 ∷ at 20 0 ∷ []) → ⊥
known_disorder (after, stretch, rest) = let x = ap (λ (points : List Point). first_x points) stretch.parts in apart x
  where
    apart : pos 0 ≡ pos 20 → ⊥
    apart never = cc

-- stitches of 5 and of 4 on both axes: 25 and 32
pub known_numbers : (stitch_count (at 0 0 ∷ at 3 4 ∷ at 7 8 ∷ []) ≡ 2) × (square_sum (at 0 0 ∷ at 3 4 ∷ at 7 8 ∷ []) ≡ 57)
    × (stitch_count (at 3 4 ∷ []) ≡ 0) × (square_sum (at 3 4 ∷ []) ≡ 0)
unfolding square_of
known_numbers = (refl, refl, refl, refl)

-- three points that are left out save three steps, and no fewer
pub known_saved : steps_of_line 30 (spaced_points (λ p. false) (rule 30)
    (at 0 0 ∷ at 10 0 ∷ at 20 0 ∷ at 30 0 ∷ at 40 0 ∷ at 50 0 ∷ [])) + 3
    ≡ steps_of_line 30 (at 0 0 ∷ at 10 0 ∷ at 20 0 ∷ at 30 0 ∷ at 40 0 ∷ at 50 0 ∷ [])
unfolding square_of
known_saved = refl

-- a point inside one line is shared, and the other line ends there: three sections before and after
pub known_sections : map end_spots (all_sections (spaced_lines (rule 30) (crossed 0 (at 10 0 ∷ at 10 4 ∷ at 10 9 ∷ []))))
    ≡ map (λ (points : List Point). map (λ (p : Point). record { block = 0; at = p }) points)
    ((at 0 0 ∷ at 10 0 ∷ []) ∷ (at 10 0 ∷ at 20 0 ∷ []) ∷ (at 10 0 ∷ at 10 9 ∷ []) ∷ [])
unfolding square_of
known_sections = refl
