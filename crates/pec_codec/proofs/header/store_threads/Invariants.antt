use Rattle.std.proofs.Common.{◌≡◌, take}
use Rattle.pec_codec.proofs.header.store_threads.Given as goal

-- the threads so far
abbrev pub invariant-loop-thread : goal.invariant-loop-thread
invariant-loop-thread l = l.design ≡ record l.fn.design { threads = take l.thread-index l.threads }
