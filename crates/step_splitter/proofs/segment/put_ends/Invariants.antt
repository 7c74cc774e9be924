use Rattle.std.proofs.Common.{◌≡◌, ◌++◌, map}
use Rattle.step_splitter.proofs.Names.{range_with_len, point_on_segment}
use Rattle.step_splitter.proofs.segment.put_ends.Given as goal

-- the ends of the steps so far
abbrev pub invariant-loop-index : goal.invariant-loop-index
invariant-loop-index l =
    l.points ≡ l.fn.points ++ map (λ i. point_on_segment l.p l.q l.count i) (range_with_len 1 l.index)
