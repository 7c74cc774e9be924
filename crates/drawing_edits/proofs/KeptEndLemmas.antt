-- A drawing that is drawn again has the given starts and ends.
use Rattle.std.proofs.Common.{◌≡◌, ℕ, ◌+◌, ◌==◌, List, [], ◌∷◌, Result, Ok, Err, IfOk, refl, ap, arith}
use Rattle.drawing_edits.proofs.Names.{nat_tests, IfOk-at_ok, IfOk-weaker, DrawKind, DrawingValue, and_then, block_added, empty_drawing, finished_drawing, joined_drawing, HasNoEnds, LineValue, EditFault, HasEndsOf, IsPlacedEnd, lines_listing, with_end_at, drawn_lines, line_added_if, redrawn, with_blocks, with_lines_of, with_starts_and_ends, after_both, edit_answer, PlacedEndsAreKept, RedrawnHasEnds, only_block, redrawn_lines, finished_none, joined_none}
use Rattle.drawing_edits.proofs.CallerLemmas.{HasBoth, both_put}

lines_keep : (block : ℕ) (d : DrawingValue) (lines : List LineValue) → HasNoEnds d → IfOk (with_lines_of block d lines) HasNoEnds
lines_keep block d [] has = has
lines_keep block d (line ∷ rest) has = after_both HasNoEnds HasNoEnds (line_added_if (line.block == block) d line.points)
    (λ next. with_lines_of block next rest) (grind (arith, nat_tests, (line.block == block)))
    (λ next kept. lines_keep block next rest kept)

block_keeps : (d : DrawingValue) (thread : ℕ) → HasNoEnds d → IfOk (block_added d thread) HasNoEnds
block_keeps d thread h1 = grind (arith, nat_tests)

blocks_keep : (d : DrawingValue) (block : ℕ) (threads : List ℕ) (lines : List LineValue) → HasNoEnds d
    → IfOk (with_blocks d block threads lines) HasNoEnds
blocks_keep d block [] lines has = has
blocks_keep d block (thread ∷ rest) lines has =
    after_both HasNoEnds HasNoEnds (and_then (block_added d thread) (λ opened. with_lines_of block opened lines))
    (λ next. with_blocks next (block + 1) rest lines)
    (after_both HasNoEnds HasNoEnds (block_added d thread) (λ opened. with_lines_of block opened lines) (block_keeps d thread has)
    (λ opened kept. lines_keep block opened lines kept))
    (λ next kept. blocks_keep next (block + 1) rest lines kept)

-- Lines are drawn again without starts and ends.
lines_alone : (d : DrawingValue) → IfOk (redrawn_lines d) HasNoEnds
lines_alone d =
    after_both HasNoEnds HasNoEnds (drawn_lines d) joined_drawing
    (after_both HasNoEnds HasNoEnds (with_blocks (empty_drawing d.label d.step) 0 d.threads d.lines) finished_drawing
    (blocks_keep (empty_drawing d.label d.step) 0 d.threads d.lines (record { starts = refl; ends = refl })) finished_none) joined_none

-- The drawing that is drawn again from a value has its starts and ends.
pub redrawn_kept : RedrawnHasEnds
redrawn_kept d new is = IfOk-at_ok (HasEndsOf d) is (after_both HasNoEnds (HasEndsOf d) (redrawn_lines d)
    (λ joined. with_starts_and_ends joined d.starts d.ends) (lines_alone d)
    (λ joined bare. IfOk-weaker (with_starts_and_ends joined d.starts d.ends) (HasBoth joined d.starts d.ends) (HasEndsOf d)
    (λ e put. record { starts = ap (λ (v : DrawingValue). v.starts) put.is; ends = ap (λ (v : DrawingValue). v.ends) put.is })
    (both_put joined d.starts d.ends bare)))

-- The same of the answer of an edit.
pub answer_kept : (d new : DrawingValue) → edit_answer (redrawn d) ≡ Ok new → HasEndsOf d new
answer_kept d new is = redrawn_kept d new (by_result (redrawn d) is)
  where
    by_result : (r : Result DrawingValue DrawKind) → edit_answer r ≡ Ok new → r ≡ Ok new
    by_result (Ok drawn) same = cc
    by_result (Err why) same = cc

-- A placed start or end is in the drawing, and those before stay.
pub placed_kept : PlacedEndsAreKept
placed_kept is_start p d new is = by_block (only_block (lines_listing p d.lines)) is
  where
    by_block : (r : Result ℕ EditFault)
        → and_then r (λ block. edit_answer (redrawn (with_end_at is_start (record { block = block; at = p }) d))) ≡ Ok new
        → IsPlacedEnd is_start p d new
    by_block (Ok block) same = record {
      block = block;
      kept = answer_kept (with_end_at is_start (record { block = block; at = p }) d) new same;
    }
    by_block (Err why) same = absurd (let no : ⊥ = cc in no)
