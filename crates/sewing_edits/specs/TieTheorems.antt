-- What ties keep of a design and of its threads. Lengths are compared by their squares.
use Rattle.std.specs.Prelude.{◌≡◌, ℕ, ◌+◌, ◌*◌, ◌≤◌, Bool, true, false, ◌&&◌, nat_le, List, [], ◌∷◌, ◌++◌, All, if◌then◌else◌}
use Rattle.design_model.specs.declared.act.Act.{Act}
use Rattle.design_model.specs.declared.act.Act.TheVariants as act
use Rattle.design_model.specs.declared.point.Point.{Point}
use Rattle.design_model.specs.Lengths.{square_of}
use Rattle.design_model.specs.Points.{is_same_point}
use Rattle.design_review.specs.declared.thread_needles.ThreadNeedle.{ThreadNeedle}
use Rattle.design_review.specs.Ties.{backwards, is_tied}
use Rattle.design_rewrites.specs.OrderedActs.{are_in_order}
use Rattle.sewing_edits.specs.declared.tie_points.TheConstants.{MAX_TIE, MIN_TIE, TIE_REACH}
use Rattle.sewing_edits.specs.ThreadTies.{bared_acts, end_tie, start_tie, tied_acts, tied_thread}

-- A length that a tie can be given.
pub record IsTieLength (length : ℕ) : Type 0 where
  pub least : MIN_TIE ≤ length
  pub most : length ≤ MAX_TIE

-- To tie a design that is tied changes nothing, whatever the length.
abbrev pub TyingTwiceIsOnce : Type 0
TyingTwiceIsOnce = (again length : ℕ) (acts : List Act) → IsTieLength length
    → are_in_order true acts ≡ true
    → tied_acts again (tied_acts length acts) ≡ tied_acts length acts

-- To take ties away gives the same before and after tying. What has no tie of this form is
-- restored.
abbrev pub BareForgetsTie : Type 0
BareForgetsTie = (length : ℕ) (acts : List Act) → IsTieLength length
    → are_in_order true acts ≡ true → bared_acts (tied_acts length acts) ≡ bared_acts acts

-- The test whether a thread is tied at both ends. It is where there is no thread.
abbrev pub is_tied_at_both : List ThreadNeedle → Bool
is_tied_at_both [] = true
is_tied_at_both (n ∷ rest) =
    is_tied TIE_REACH (n ∷ rest) && is_tied TIE_REACH (backwards (n ∷ rest))

-- The test whether each thread is tied at both ends, given the needles of the thread before the
-- acts.
abbrev pub are_threads_tied : List ThreadNeedle → List Act → Bool
are_threads_tied thread [] = is_tied_at_both thread
are_threads_tied thread (act.Needle p float ∷ rest) =
    are_threads_tied (thread ++ record { at = p; float = float } ∷ []) rest
are_threads_tied thread (act.Trim ∷ rest) = is_tied_at_both thread && are_threads_tied [] rest
are_threads_tied thread (act.Stop ∷ rest) = is_tied_at_both thread && are_threads_tied [] rest

-- A tied design has all ends of its threads tied.
abbrev pub AllEndsAreTied : Type 0
AllEndsAreTied = (length : ℕ) (acts : List Act) → IsTieLength length
    → are_in_order true acts ≡ true → are_threads_tied [] (tied_acts length acts) ≡ true

-- The number of needles in exactly one point.
abbrev pub count_at : Point → List ThreadNeedle → ℕ
count_at p [] = 0
count_at p (n ∷ rest) = (if is_same_point p n.at then 1 else 0) + count_at p rest

-- No point gets more than four needles by the ties of a thread.
abbrev pub PointsGetFewNeedles : Type 0
PointsGetFewNeedles = (length : ℕ) (thread : List ThreadNeedle) (p : Point) → IsTieLength length
    → count_at p (tied_thread length thread) ≤ count_at p thread + 4

-- Needles are sewn to, and near the first needle of a thread. Without a needle there are none.
abbrev pub AreNearFirst : (thread needles : List ThreadNeedle) → Type 0
AreNearFirst [] needles = needles ≡ []
AreNearFirst (n ∷ rest) needles =
    All (λ m. (m.float ≡ false) × (square_of n.at m.at ≤ TIE_REACH * TIE_REACH)) needles

-- The needles of ties are near the ends of their thread.
abbrev pub TiesAreNearEnds : Type 0
TiesAreNearEnds = (length : ℕ) (thread : List ThreadNeedle) → IsTieLength length
    → AreNearFirst thread (start_tie length thread)
    × AreNearFirst (backwards thread) (end_tie length thread)

-- The test whether each stitch and float of a thread is at most as long.
abbrev pub are_spans_within : (square : ℕ) → List ThreadNeedle → Bool
are_spans_within square [] = true
are_spans_within square (n ∷ []) = true
are_spans_within square (n ∷ m ∷ rest) =
    nat_le (square_of n.at m.at) square && are_spans_within square (m ∷ rest)

-- No stitch of a tie is longer than 1.2 mm. Where the limit is at least that, ties exceed it
-- nowhere.
abbrev pub TiesLengthenNoStitch : Type 0
TiesLengthenNoStitch = (square length : ℕ) (thread : List ThreadNeedle) → IsTieLength length
    → 144 ≤ square → are_spans_within square thread ≡ true
    → are_spans_within square (tied_thread length thread) ≡ true

-- Acts in order stay in order when they are tied.
abbrev pub TiesKeepOrder : Type 0
TiesKeepOrder = (length : ℕ) (acts : List Act) → are_in_order true acts ≡ true
    → are_in_order true (tied_acts length acts) ≡ true

-- Acts in order stay in order when the ties of their threads are taken away.
abbrev pub BareKeepsOrder : Type 0
BareKeepsOrder = (acts : List Act) → are_in_order true acts ≡ true
    → are_in_order true (bared_acts acts) ≡ true
