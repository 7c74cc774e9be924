-- Needles in one hole: those at most 2 tenths of a millimetre from a needle, on a straight line.
use Rattle.std.specs.Prelude.{ℕ, ◌*◌, ◌==◌, Bool, not, ◌&&◌, nat_le, List, ◌∷◌, count_by, if◌then◌else◌}
use Rattle.std.specs.List.{list_any}
use Rattle.design_model.specs.declared.point.Point.{Point}
use Rattle.design_model.specs.Lengths.{square_of}
use Rattle.design_review.specs.declared.needle_keys.TheConstants.{HOLE_RADIUS}

-- The test whether two needles are in one hole.
abbrev pub are_in_one_hole : Point → Point → Bool
are_in_one_hole p q = nat_le (square_of p q) (HOLE_RADIUS * HOLE_RADIUS)

-- The number of needles in one hole with a needle, itself included.
abbrev pub needles_in_hole : List Point → Point → ℕ
needles_in_hole needles p = count_by (are_in_one_hole p) needles

-- The test whether at least n needles are in one hole with a needle. With 0 none is looked for.
abbrev pub is_crowded : ℕ → List Point → Point → Bool
is_crowded n needles p = not (n == 0) && nat_le n (needles_in_hole needles p)

-- The test whether a needle is in one hole with one that is reported.
abbrev pub is_in_reported_hole : List Point → Point → Bool
is_in_reported_hole reported p = list_any (are_in_one_hole p) reported

-- The test whether a needle is reported: it is crowded, and in no hole that is reported before.
abbrev pub is_hole_reported : ℕ → (needles reported : List Point) → Point → Bool
is_hole_reported n needles reported p = is_crowded n needles p
    && not (is_in_reported_hole reported p)

-- The needles of the reported holes, after a needle.
abbrev pub reported_after : ℕ → (needles reported : List Point) → Point → List Point
reported_after n needles reported p =
    if is_hole_reported n needles reported p then p ∷ reported else reported
