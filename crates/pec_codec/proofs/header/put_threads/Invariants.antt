use Rattle.std.proofs.Common.{◌≡◌, ◌++◌, map}
use Rattle.pec_codec.proofs.Names.{range_with_len, thread_of}
use Rattle.pec_codec.proofs.header.put_threads.Given as goal

-- the threads so far
abbrev pub invariant-loop-block : goal.invariant-loop-block
invariant-loop-block l = l.out ≡ l.fn.out ++ map (thread_of l.design) (range_with_len 0 l.block)
