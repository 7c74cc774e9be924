use Rattle.std.proofs.Common.{◌≡◌, ◌++◌, replicate}
use Rattle.std.specs.List.{concat}
use Rattle.test_values.proofs.repeated_bytes.repeated.Given as goal

-- with the middles that are left, all of them are behind the head
abbrev pub invariant-loop-left : goal.invariant-loop-left
invariant-loop-left l = l.bytes ++ concat (replicate l.left l.middle) ≡ l.head ++ concat (replicate l.times l.middle)

abbrev pub decreases-loop-left : goal.decreases-loop-left
decreases-loop-left l = l.left
