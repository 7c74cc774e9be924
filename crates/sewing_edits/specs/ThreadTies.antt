-- Ties of threads: how they are added, and taken away. A thread is the needles between two trims,
-- stops or ends of a design. A tie of an end p is sewn p, h, q, h, p: q is along the thread, h
-- halfway.
use Rattle.std.specs.Prelude.{ℕ, ◌-◌, ◌*◌, Bool, true, false, not, ◌&&◌, ◌||◌, nat_le, List, [], ◌∷◌, ◌++◌, drop, length, map, reverse, take, if◌then◌else◌}
use Rattle.design_model.specs.declared.act.Act.{Act}
use Rattle.design_model.specs.declared.act.Act.TheVariants as act
use Rattle.design_model.specs.declared.point.Point.{Point}
use Rattle.design_model.specs.Lengths.{square_of}
use Rattle.design_model.specs.Points.{is_same_point}
use Rattle.design_review.specs.declared.thread_needles.ThreadNeedle.{ThreadNeedle}
use Rattle.design_review.specs.Ties.{backwards, is_tied}
use Rattle.sewing_edits.specs.declared.tie_points.TheConstants.{MAX_TIE_LENGTH, MIN_TIE, TIE_REACH}
use Rattle.sewing_edits.specs.declared.thread_edits.ThreadEdit.{ThreadEdit}
use Rattle.sewing_edits.specs.declared.thread_edits.ThreadEdit.TheVariants as edit
use Rattle.sewing_edits.specs.TiePoints.{halfway_point, tie_point}

-- A needle that is sewn to.
abbrev pub sewn_to : Point → ThreadNeedle
sewn_to p = record { at = p; float = false }

-- The needles of a tie of p before p: to q by h and back.
abbrev pub tie_needles : (p q : Point) → List ThreadNeedle
tie_needles p q =
    sewn_to p ∷ sewn_to (halfway_point p q) ∷ sewn_to q ∷ sewn_to (halfway_point p q) ∷ []

-- The needles of a tie before the first needle of a thread.
abbrev pub tie_of : (length : ℕ) → List ThreadNeedle → List ThreadNeedle
tie_of length [] = []
tie_of length (n ∷ rest) = tie_needles n.at (tie_point length n.at rest)

-- The test whether a thread has one needle.
abbrev pub is_single : List ThreadNeedle → Bool
is_single [] = false
is_single (n ∷ []) = true
is_single (n ∷ m ∷ rest) = false

-- The needles that are added before a thread, so that it is tied at its start.
abbrev pub start_tie : ℕ → List ThreadNeedle → List ThreadNeedle
start_tie length thread = if is_tied TIE_REACH thread then [] else tie_of length thread

-- The needles that are added after a thread, last one first, so that it is tied at its end. A
-- thread of one needle has its tie at the start.
abbrev pub end_tie : ℕ → List ThreadNeedle → List ThreadNeedle
end_tie length thread = if is_tied TIE_REACH (backwards thread) || is_single thread then []
    else tie_of length (backwards thread)

-- The thread with a tie at each end that isn't tied.
abbrev pub tied_thread : ℕ → List ThreadNeedle → List ThreadNeedle
tied_thread length thread =
    start_tie length thread ++ (thread ++ reverse (end_tie length thread))

-- The test whether a tie can be as long, by the square of its length from p to q.
abbrev pub is_tie_length : (square : ℕ) → Bool
is_tie_length square =
    nat_le (MIN_TIE * MIN_TIE) square && nat_le square (MAX_TIE_LENGTH * MAX_TIE_LENGTH)

-- The test whether five needles are those of a tie: p, h, q, h and p, of a length that a tie has,
-- and with no float between them.
abbrev pub are_tie_needles : (a b c d e : ThreadNeedle) → Bool
are_tie_needles a b c d e =
    (not b.float && (not c.float && (not d.float && not e.float)))
    && ((is_same_point a.at e.at && (is_same_point b.at d.at
    && is_same_point b.at (halfway_point a.at c.at)))
    && is_tie_length (square_of a.at c.at))

-- The test whether a thread begins with a tie of this form.
abbrev pub has_own_tie : List ThreadNeedle → Bool
has_own_tie (a ∷ b ∷ c ∷ d ∷ e ∷ rest) = are_tie_needles a b c d e
has_own_tie (a ∷ b ∷ c ∷ d ∷ []) = false
has_own_tie (a ∷ b ∷ c ∷ []) = false
has_own_tie (a ∷ b ∷ []) = false
has_own_tie (a ∷ []) = false
has_own_tie [] = false

-- The thread without a tie of this form at its start.
abbrev pub bared_start : List ThreadNeedle → List ThreadNeedle
bared_start thread = if has_own_tie thread then drop 4 thread else thread

-- The thread without a tie of this form at its end.
abbrev pub bared_end : List ThreadNeedle → List ThreadNeedle
bared_end thread =
    if has_own_tie (backwards thread) then take (length thread - 4) thread else thread

-- The thread without a tie of this form at its start, and then at its end.
abbrev pub bared_thread : List ThreadNeedle → List ThreadNeedle
bared_thread thread = bared_end (bared_start thread)

-- The thread after an edit.
abbrev pub edited_thread : ThreadEdit → List ThreadNeedle → List ThreadNeedle
edited_thread (edit.Tie length) thread = tied_thread length thread
edited_thread edit.Bare thread = bared_thread thread

-- The acts of needles.
abbrev pub acts_of_needles : List ThreadNeedle → List Act
acts_of_needles needles = map (λ n. act.Needle n.at n.float) needles

-- The acts with each thread edited, given the needles of the thread before them.
abbrev pub edited_threads : ThreadEdit → List ThreadNeedle → List Act → List Act
edited_threads e thread [] = acts_of_needles (edited_thread e thread)
edited_threads e thread (act.Needle p float ∷ rest) =
    edited_threads e (thread ++ record { at = p; float = float } ∷ []) rest
edited_threads e thread (act.Trim ∷ rest) =
    acts_of_needles (edited_thread e thread) ++ act.Trim ∷ edited_threads e [] rest
edited_threads e thread (act.Stop ∷ rest) =
    acts_of_needles (edited_thread e thread) ++ act.Stop ∷ edited_threads e [] rest

-- The acts of a design with each thread tied.
abbrev pub tied_acts : ℕ → List Act → List Act
tied_acts length acts = edited_threads (edit.Tie length) [] acts

-- The acts of a design without the ties of its threads.
abbrev pub bared_acts : List Act → List Act
bared_acts acts = edited_threads edit.Bare [] acts
