use Rattle.std.proofs.Common.{◌≡◌, length}
use Rattle.test_values.proofs.large_designs.large.Given as goal

-- the threads so far
abbrev pub invariant-loop-thread : goal.invariant-loop-thread
invariant-loop-thread _ l = length l.design.threads ≡ l.thread-index
