use Rattle.std.proofs.Common.{◌≡◌, ◌+◌, ◌-◌, length}
use Rattle.design_edits.proofs.Names.{threads_up_to}
use Rattle.design_edits.proofs.colours.fill_threads.Given as goal

-- the threads so far, and those up to the place
abbrev pub invariant-loop-design : goal.invariant-loop-design
invariant-loop-design l =
    record l.design { threads = threads_up_to l.design l.place }
    ≡ record l.fn.design { threads = threads_up_to l.fn.design l.place }

abbrev pub decreases-loop-design : goal.decreases-loop-design
decreases-loop-design l = l.place + 1 - length l.design.threads
