-- Threads of blocks that are compared one by one.
use Rattle.std.proofs.Common.{◌≡◌, ℕ, suc, ◌+◌, ◌-◌, ◌<◌, refl, arith}
use Rattle.design_model.specs.Designs.{DesignValue, thread_of}
use Rattle.design_review.specs.Differences.{thread_difference_from}
use Rattle.design_model.proofs.ListLemmas.{eq_self}

-- where the threads of a block are the same, the first difference is that of the others
pub next_block : (first second : DesignValue) (block blocks : ℕ) → block < blocks → thread_of first block ≡ thread_of second block
    → thread_difference_from first second (block + 1) (blocks - (block + 1)) ≡ thread_difference_from first second block (blocks - block)
next_block first second block blocks less same =
    let more : blocks - block ≡ suc (blocks - (block + 1)) = omega (arith, less) in
    rw (more, same, eq_self (thread_of second block)) refl
