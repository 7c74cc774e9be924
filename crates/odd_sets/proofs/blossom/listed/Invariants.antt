use Rattle.std.proofs.Common.{◌≡◌, ◌++◌, length}
use Rattle.odd_sets.proofs.blossom.listed.Given as goal

-- the parts so far and those that are left
abbrev pub invariant-loop-p : goal.invariant-loop-p
invariant-loop-p l = l.parts.items ++ l.left.items ≡ l.fn.chain.items

abbrev pub decreases-loop-p : goal.decreases-loop-p
decreases-loop-p l = length l.left.items
