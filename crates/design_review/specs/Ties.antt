-- Ties: where an end of a thread is secured by short stitches. A thread is its needles in order,
-- from where it is loose to where it is cut. Lengths are tenths of a millimetre, compared by their
-- squares.
use Rattle.std.specs.Prelude.{ℕ, ◌+◌, ◌*◌, Bool, false, not, ◌&&◌, nat_le, List, [], ◌∷◌, reverse, Option, Some, None, if◌then◌else◌}
use Rattle.std.specs.List.{filter_map}
use Rattle.design_model.specs.declared.act.Act.{Act}
use Rattle.design_model.specs.declared.act.Act.TheVariants as act
use Rattle.design_model.specs.declared.act.NumberedAct.{NumberedAct}
use Rattle.design_model.specs.declared.point.Point.{Point}
use Rattle.design_model.specs.Acts.{acts_of}
use Rattle.design_model.specs.Designs.{DesignValue}
use Rattle.design_model.specs.Lengths.{square_of}
use Rattle.design_review.specs.declared.thread_needles.ThreadNeedle.{ThreadNeedle}
use Rattle.design_review.specs.declared.ties.TheConstants.{MAX_TIE_SQUARE, MIN_TIE_SQUARE, TIE_STITCHES}

-- The needle of an act, if it is a needle act.
abbrev pub thread_needle_of : Act → Option ThreadNeedle
thread_needle_of (act.Needle p float) = Some (record { at = p; float = float })
thread_needle_of act.Trim = None
thread_needle_of act.Stop = None

-- The needles of acts, in order.
abbrev pub thread_needles_of_acts : List NumberedAct → List ThreadNeedle
thread_needles_of_acts acts = filter_map (λ a. thread_needle_of a.act) acts

-- The needles of a design, in order.
abbrev pub thread_needles_of_design : DesignValue → List ThreadNeedle
thread_needles_of_design d = thread_needles_of_acts (acts_of d)

-- The test whether a needle is sewn to, and at most as far from the first needle as ties reach.
abbrev pub is_near_first : (reach : ℕ) (first : Point) → ThreadNeedle → Bool
is_near_first reach first n =
    not n.float && nat_le (square_of first n.at) (reach * reach)

-- The points of the beginning of a thread, after its first needle: up to the first needle that is a
-- float or farther than the reach.
abbrev pub beginning_after : (reach : ℕ) (first : Point) → List ThreadNeedle → List Point
beginning_after reach first [] = []
beginning_after reach first (n ∷ rest) =
    if is_near_first reach first n then n.at ∷ beginning_after reach first rest else []

-- The test whether a stitch is as long as one of a tie.
abbrev pub is_tie_stitch : Point → Point → Bool
is_tie_stitch p q =
    nat_le MIN_TIE_SQUARE (square_of p q) && nat_le (square_of p q) MAX_TIE_SQUARE

-- The number of stitches along points that are as long as one of a tie.
abbrev pub count_tie_stitches : Point → List Point → ℕ
count_tie_stitches p [] = 0
count_tie_stitches p (q ∷ rest) =
    (if is_tie_stitch p q then 1 else 0) + count_tie_stitches q rest

-- The test whether a thread is tied at its start: its beginning has three stitches, in a row or
-- not, that are as long as those of a tie.
abbrev pub is_tied : (reach : ℕ) → List ThreadNeedle → Bool
is_tied reach [] = false
is_tied reach (n ∷ rest) =
    nat_le TIE_STITCHES (count_tie_stitches n.at (beginning_after reach n.at rest))

-- The test whether the first of some needles is one that the thread floats to.
abbrev pub is_floated_to : List ThreadNeedle → Bool
is_floated_to [] = false
is_floated_to (n ∷ rest) = n.float

-- The needles of a thread, each with whether the thread floats from it to the next.
abbrev pub with_next_floats : List ThreadNeedle → List ThreadNeedle
with_next_floats [] = []
with_next_floats (n ∷ rest) =
    record { at = n.at; float = is_floated_to rest } ∷ with_next_floats rest

-- The thread that is sewn from the last needle back to the first.
abbrev pub backwards : List ThreadNeedle → List ThreadNeedle
backwards thread = reverse (with_next_floats thread)
