use Rattle.std.proofs.Common.{◌≡◌, ◌+◌, ◌*◌, ℕ, drop, get_or}
use Rattle.odd_sets.proofs.Names.{count}
use Rattle.odd_sets.proofs.heights.raise.Given as goal

-- the places that are left are still to rise
abbrev pub invariant-loop-m : goal.invariant-loop-m
invariant-loop-m l = (x : ℕ) → get_or l.heights x 0 + l.by * count x (drop l.m-index l.members)
    ≡ get_or l.fn.heights x 0 + l.by * count x l.members
