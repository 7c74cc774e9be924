use Rattle.std.proofs.Common.{◌≡◌, ℤ, ◌≤◌, arith, of_z, to_z, unsigned_abs, w32}
use Rattle.std.proofs.lemmas.Int.{ints}
use Rattle.design_edits.specs.declared.motion.TheConstants.{MAX_SHIFT}
use Rattle.edited_designs.proofs.applied.moved.Goals as goal

-- a shift within its bounds is a number of 32 bits
held : (n : ℤ) → unsigned_abs n ≤ MAX_SHIFT → to_z w32 (of_z w32 n) ≡ n
held n small = omega (arith, ints)

pub returns-in-Shift : goal.returns-in-Shift
returns-in-Shift c =
    let small : (unsigned_abs c.in-Shift.dx ≤ MAX_SHIFT) × (unsigned_abs c.in-Shift.dy ≤ MAX_SHIFT) = rw c.in-Shift.is at c.requires in
    rw c.in-Shift.is (rw (held c.in-Shift.dx small.0, held c.in-Shift.dy small.1) at c.moved_far.ensures)
