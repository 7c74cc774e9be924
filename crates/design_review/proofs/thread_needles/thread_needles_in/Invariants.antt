use Rattle.std.proofs.Common.{◌≡◌, ◌++◌, ◌+◌, drop}
use Rattle.design_model.specs.Acts.{acts_along, acts_from}
use Rattle.design_review.specs.Ties.{thread_needles_of_acts}
use Rattle.design_review.proofs.thread_needles.thread_needles_in.Given as goal

-- the needles so far, and those of the commands that are left
abbrev pub invariant-loop-command : goal.invariant-loop-command
invariant-loop-command l =
    l.needles ++ thread_needles_of_acts (acts_from (l.command-index + 1) l.thread.loose l.thread.jumped (drop l.command-index l.commands))
    ≡ thread_needles_of_acts (acts_along l.commands)
