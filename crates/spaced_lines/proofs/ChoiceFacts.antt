-- Worked choices of points, and what the records on them exclude, in tenths of a millimetre.
use Rattle.std.proofs.Common.{◌≡◌, ◌≤◌, ◌*◌, ℕ, pos, List, [], ◌∷◌, refl, arith}
use Rattle.design_model.proofs.ListLemmas.{false_true}
use Rattle.design_model.specs.Lengths.{square_of}
use Rattle.spaced_lines.proofs.Names.{Best, IsWithin, Point, best_with, no_stitch}
use Rattle.spaced_lines.specs.BestChoices.{IsChainEnd, choice_at}

abbrev at : ℕ → ℕ → Point
at x y = record { x = pos x; y = pos y }

abbrev best : (stitches squares left_out : ℕ) → Best
best stitches squares left_out = record { stitches = stitches; squares = squares; left_out = left_out }

pub known_no_stitch : no_stitch ≡ best 0 0 0
known_no_stitch = refl

-- one stitch more, 3 across and 4 down
pub known_with : best_with (at 0 0) (at 3 4) 7 (best 5 100 2) ≡ best 6 125 7
unfolding square_of
known_with = refl

abbrev after : List Point
after = at 3 4 ∷ at 6 8 ∷ []

-- to the second point, to the first one, and beyond the last one
pub known_choices : (choice_at (at 0 0) after (best 2 50 1 ∷ best 1 9 0 ∷ []) 1 ≡ best 2 109 1)
    × (choice_at (at 0 0) after (best 2 50 1 ∷ best 1 9 0 ∷ []) 0 ≡ best 3 75 0)
    × (choice_at (at 3 4) after (best 2 50 1 ∷ best 1 9 0 ∷ []) 2 ≡ best 1 25 2)
unfolding square_of
known_choices = (refl, refl, refl)

-- the end of a chain is better than the other choice, and not only as good
pub known_no_end_as_good : IsChainEnd (at 0 0) after (best 1 9 0 ∷ best 2 50 1 ∷ []) 1 (best 2 34 0) 0 → ⊥
unfolding square_of
known_no_end_as_good is = false_true is.than_other

-- and it is better than each one that leaves out more points
pub known_no_end_after_better : IsChainEnd (at 0 0) after (best 2 50 1 ∷ best 1 9 0 ∷ []) 1 (best 9 0 0) 0 → ⊥
unfolding square_of
known_no_end_after_better is = false_true (is.than_each 1 (omega arith) (omega arith))

-- as many stitches as the bound, and squares below 2 ^ 65 for each
pub known_within : (n stitches squares : ℕ) → IsWithin n (best stitches squares 3)
    → (stitches ≤ n) × (squares ≤ n * 36893488147419103232)
known_within n stitches squares is = (is.few, is.short)
