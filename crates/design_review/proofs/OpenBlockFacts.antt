-- Worked summaries of a block that is still open, and kept lengths.
use Rattle.std.proofs.Common.{◌≡◌, ◌⊎◌, ℕ, pos, true, false, List, [], ◌∷◌, Some, None, refl, arith, ⊎_elim}
use Rattle.design_model.specs.Acts.{numbered}
use Rattle.design_model.specs.Lengths.{length_of, square_of, whole_root}
use Rattle.design_model.specs.declared.act.Act.TheVariants as act
use Rattle.design_model.specs.declared.act.NumberedAct.{NumberedAct}
use Rattle.design_model.specs.declared.point.Point.{Point}
use Rattle.design_review.specs.BlockSummaries.{spans_after}
use Rattle.design_review.specs.KeptLengths.{AreKeptLengths, IsKeptLength}
use Rattle.design_review.specs.OpenBlocks.{HasSmallLength, continued_blocks, continued_summary, empty_block, empty_summary, summary_with_span, summary_with_stitch, summary_with_thread, with_blocks}
use Rattle.design_review.specs.declared.open_block.BlockSummary.{BlockSummary}
use Rattle.design_review.specs.declared.open_block.OpenBlock.{OpenBlock}

abbrev at : ℕ → ℕ → Point
at x y = record { x = pos x; y = pos y }

-- nothing is in an empty block
pub known_empty : (empty_summary ≡ record { needles = 0; length = 0; shortest = None; longest = 0 })
    × (empty_block ≡ record { summary = record { needles = 0; length = 0; shortest = None; longest = 0 }; before = None })
known_empty = (refl, refl)

-- three needles, a thread of 200, and stitches from 50 to 60
abbrev three : BlockSummary
three = record { needles = 3; length = 200; shortest = Some 50; longest = 60 }

-- thread has length alone, a stitch counts as the shortest and the longest, and a float is thread without a stitch
pub known_thread : (summary_with_thread three 70 ≡ record { needles = 3; length = 270; shortest = Some 50; longest = 60 })
    × (summary_with_stitch three 70 ≡ record { needles = 3; length = 200; shortest = Some 50; longest = 70 })
    × (summary_with_stitch three 40 ≡ record { needles = 3; length = 200; shortest = Some 40; longest = 60 })
    × (summary_with_span three false 40 ≡ record { needles = 3; length = 240; shortest = Some 40; longest = 60 })
    × (summary_with_span three true 40 ≡ record { needles = 3; length = 240; shortest = Some 50; longest = 60 })
known_thread = (refl, refl, refl, refl, refl)

-- from a needle at the origin a stitch of 500 and a float of 1000 follow
abbrev begun : OpenBlock
begun = record { summary = three; before = Some (at 0 0) }

abbrev more : List NumberedAct
more = numbered 7 (act.Needle (at 3 4) false) ∷ numbered 9 (act.Needle (at 9 12) true) ∷ []

pub known_spans : spans_after (Some (at 0 0)) more ≡ record { float = false; length = 500 } ∷ record { float = true; length = 1000 } ∷ []
unfolding length_of square_of whole_root
known_spans = refl

pub known_continued : continued_summary begun more ≡ record { needles = 5; length = 1700; shortest = Some 50; longest = 500 }
unfolding length_of square_of whole_root
known_continued = refl

-- the open block ends at the stop, and one of one needle follows
pub known_continued_blocks : (continued_blocks begun [] ≡ three ∷ [])
    × (continued_blocks begun (more ∷ (numbered 11 (act.Needle (at 1 1) false) ∷ []) ∷ [])
    ≡ record { needles = 5; length = 1700; shortest = Some 50; longest = 500 }
    ∷ record { needles = 1; length = 0; shortest = None; longest = 0 } ∷ [])
unfolding length_of square_of whole_root
known_continued_blocks = (refl, refl)

pub known_with_blocks : with_blocks (empty_summary ∷ []) begun
    (numbered 7 (act.Needle (at 3 4) false) ∷ numbered 8 act.Stop ∷ numbered 9 (act.Needle (at 1 1) false) ∷ [])
    ≡ record { needles = 0; length = 0; shortest = None; longest = 0 }
    ∷ record { needles = 4; length = 700; shortest = Some 50; longest = 500 }
    ∷ record { needles = 1; length = 0; shortest = None; longest = 0 } ∷ []
unfolding length_of square_of whole_root
known_with_blocks = refl

-- two needles have a thread of at most two times 2 to the 64th
pub known_small : HasSmallLength (record { needles = 2; length = 36893488147419103233; shortest = None; longest = 0 }) → ⊥
known_small has = omega (arith, has.length)

-- For the square 25, nothing is kept, or 0.5 mm.
pub known_kept : (kept : ℕ) → IsKeptLength 25 kept → (kept ≡ 18446744073709551615) ⊎ (kept ≡ 500)
unfolding whole_root
known_kept kept is = is

-- For the square of 3 m, nothing is kept, or 3 m.
pub known_kept_long : (kept : ℕ) → IsKeptLength 900000000 kept → (kept ≡ 18446744073709551615) ⊎ (kept ≡ 3000000)
unfolding whole_root
known_kept_long kept is = is

-- A table with 99 for the square 1 is wrong, whose length is 100.
pub known_bad_table : AreKeptLengths (0 ∷ 99 ∷ []) → ⊥
unfolding whole_root
known_bad_table are = ⊎_elim (λ none. never none) (λ length. other length) (are 1 (omega arith))
  where
    never : ◌≡◌ {A = ℕ} 99 18446744073709551615 → ⊥
    never is = omega (arith, is)

    other : ◌≡◌ {A = ℕ} 99 100 → ⊥
    other is = omega (arith, is)
