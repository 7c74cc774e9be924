-- The changes of a design that arguments request.
use Rattle.std.specs.Prelude.{ℕ}
use Rattle.design_edits.specs.declared.motion.Motion.{Motion}

-- A change: split long stitches, cut long floats, move all points, or set the thread of a block,
-- counted from 1.
pub data Change : Type 0 where
  split : Change
  cut : Change
  move : Motion → Change
  thread : (place number : ℕ) → Change
