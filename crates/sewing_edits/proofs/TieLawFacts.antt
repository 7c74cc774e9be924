-- The laws of ties: what they state of one design, and what no design becomes. Points are in tenths of a millimetre.
use Rattle.std.proofs.Common.{◌≡◌, ◌∙◌, ℕ, pos, negsuc, ℤ, true, false, ◌+◌, ◌≤◌, List, [], ◌∷◌, map, refl, subst, arith, ap, sym, true≢false}
use Rattle.design_model.specs.declared.act.Act.TheVariants as act
use Rattle.design_model.specs.Lengths.{square_of}
use Rattle.design_review.specs.declared.thread_needles.ThreadNeedle.{ThreadNeedle}
use Rattle.sewing_edits.specs.ThreadTies.{bared_acts, sewn_to, start_tie, tied_acts, tied_thread}
use Rattle.sewing_edits.specs.TieTheorems.{AllEndsAreTied, AreNearFirst, BareForgetsTie, BareKeepsOrder, IsTieLength, PointsGetFewNeedles, TiesAreNearEnds, TiesKeepOrder, TiesLengthenNoStitch, TyingTwiceIsOnce, are_spans_within, are_threads_tied, count_at}
use Rattle.sewing_edits.proofs.CutLawFacts.{acts}
use Rattle.sewing_edits.proofs.Names.{Act, Point, are_in_order}

-- the point at those coordinates
abbrev at : ℤ → Point
at x = record { x = x; y = pos 0 }

-- a needle on the axis that points to the right, sewn or carried to
abbrev sewn : ℕ → Act
sewn x = act.Needle (at (pos x)) false

abbrev carried : ℕ → Act
carried x = act.Needle (at (pos x)) true

-- a needle of a thread
abbrev to : ℕ → ThreadNeedle
to x = sewn_to (at (pos x))

-- The design of the other laws, tied by 1 mm: a thread of one needle has one tie, beside it.
abbrev tied : List Act
tied = sewn 0 ∷ sewn 5 ∷ sewn 10 ∷ sewn 5 ∷ sewn 0 ∷ sewn 20 ∷ carried 81 ∷ carried 141 ∷ sewn 142 ∷ sewn 160 ∷ sewn 155 ∷ sewn 150
    ∷ sewn 155 ∷ sewn 160 ∷ act.Trim ∷ sewn 164 ∷ sewn 169 ∷ sewn 174 ∷ sewn 169 ∷ sewn 164 ∷ sewn 190 ∷ sewn 185 ∷ sewn 180
    ∷ sewn 185 ∷ sewn 190 ∷ act.Trim ∷ sewn 300 ∷ sewn 295 ∷ sewn 290 ∷ sewn 295 ∷ sewn 300 ∷ act.Stop ∷ act.Stop
    ∷ sewn 9 ∷ sewn 4 ∷ act.Needle (at (negsuc 0)) false ∷ sewn 4 ∷ sewn 9 ∷ []

length_of_tie : IsTieLength 10
length_of_tie = record { least = omega arith; most = omega arith }

-- it is restored, stays when it is tied again by another length, is tied everywhere, and is in order
pub known_undone : BareForgetsTie → bared_acts tied ≡ acts
unfolding square_of
known_undone law = law 10 acts length_of_tie refl

pub known_twice : TyingTwiceIsOnce → tied_acts 18 tied ≡ tied
unfolding square_of
known_twice law = law 18 10 acts length_of_tie refl

pub known_tied : AllEndsAreTied → are_threads_tied [] tied ≡ true
unfolding square_of
known_tied law = law 10 acts length_of_tie refl

pub known_order : TiesKeepOrder → BareKeepsOrder → (are_in_order true tied ≡ true) × (are_in_order true acts ≡ true)
unfolding square_of
known_order ties bares = (ties 10 acts refl, bares tied refl)

-- A thread of one needle gets two needles in h, and there are at most four more; none gets one 2.1 mm away, or a stitch of 1.3 mm.
pub known_few : PointsGetFewNeedles → (thread : List ThreadNeedle)
    → tied_thread 10 thread ≡ map to (0 ∷ 5 ∷ 5 ∷ 5 ∷ 5 ∷ 5 ∷ []) → 1 ≤ count_at (at (pos 5)) thread
known_few law thread is = least (count_at (at (pos 5)) thread) (law 10 thread (at (pos 5)) length_of_tie) (ap (count_at (at (pos 5))) is)
  where
    least : {all : ℕ} (few : ℕ) → all ≤ few + 4 → all ≡ 5 → 1 ≤ few
    least few le is = omega (arith, le, is)

pub known_near : TiesAreNearEnds → start_tie 10 (to 0 ∷ []) ≡ to 21 ∷ [] → ⊥
unfolding square_of
known_near law is =
    far ((subst (λ (ns : List ThreadNeedle). AreNearFirst (to 0 ∷ []) ns) is (law 10 (to 0 ∷ []) length_of_tie).0) 0 (to 0) (omega arith)).1
  where
    far : 441 ≤ 400 → ⊥
    far le = omega (arith, le)

pub known_no_longer : TiesLengthenNoStitch → (thread : List ThreadNeedle) → are_spans_within 144 thread ≡ true
    → tied_thread 10 thread ≡ map to (0 ∷ 13 ∷ []) → ⊥
unfolding square_of
known_no_longer law thread within is =
    true≢false (sym (law 144 10 thread length_of_tie (omega arith) within) ∙ ap (are_spans_within 144) is)

-- No design is tied to one that an end of isn't, and no acts in order become a float at the beginning.
pub known_untied : AllEndsAreTied → (acts : List Act) → are_in_order true acts ≡ true
    → tied_acts 10 acts ≡ sewn 0 ∷ sewn 90 ∷ [] → ⊥
unfolding square_of
known_untied law acts ordered is = true≢false (sym (law 10 acts length_of_tie ordered) ∙ ap (are_threads_tied []) is)

pub known_unordered : TiesKeepOrder → BareKeepsOrder → (acts : List Act) → are_in_order true acts ≡ true
    → (tied_acts 10 acts ≡ carried 5 ∷ [] → ⊥) × (bared_acts acts ≡ carried 5 ∷ [] → ⊥)
known_unordered ties bares acts ordered = (
  λ is. true≢false (sym (ties 10 acts ordered) ∙ ap (are_in_order true) is),
  λ is. true≢false (sym (bares acts ordered) ∙ ap (are_in_order true) is),
)
