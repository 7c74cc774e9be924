use Rattle.std.proofs.Common.{◌≡◌, ◌++◌, reverse, vec_len}
use Rattle.odd_sets.proofs.branches.put_back.Given as goal

abbrev pub invariant-loop-b : goal.invariant-loop-b
invariant-loop-b l = l.tree.items ++ reverse l.left.items ≡ l.fn.tree.items ++ reverse l.fn.aside.items

abbrev pub decreases-loop-b : goal.decreases-loop-b
decreases-loop-b l = vec_len l.left
