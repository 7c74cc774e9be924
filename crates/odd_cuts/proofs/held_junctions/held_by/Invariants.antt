use Rattle.std.proofs.Common.{◌≡◌, ◌<◌, ◌+◌, ℕ, ◌||◌, drop, get_or, false}
use Rattle.odd_cuts.proofs.Names.{has_member, MAX_LINES}
use Rattle.odd_cuts.proofs.held_junctions.held_by.Given as goal

-- a junction is a member where it is one of those that are left, or marked
abbrev pub invariant-loop-j : goal.invariant-loop-j
invariant-loop-j l = (j : ℕ) → j < MAX_LINES + 1
    → (has_member (drop l.j-index l.members) j || get_or l.held j false) ≡ has_member l.members j
