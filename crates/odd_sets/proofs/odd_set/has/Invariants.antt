use Rattle.std.proofs.Common.{◌≡◌, drop}
use Rattle.odd_sets.proofs.Names.{count}
use Rattle.odd_sets.proofs.odd_set.has.Given as goal

-- the place is none of those so far
abbrev pub invariant-loop-y : goal.invariant-loop-y
invariant-loop-y l = count l.x l.xs ≡ count l.x (drop l.y-index l.xs)
