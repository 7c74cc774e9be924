use Rattle.std.proofs.Common.{◌≡◌, ◌++◌, ◌+◌, drop}
use Rattle.design_model.specs.Acts.{acts_along, acts_from}
use Rattle.design_model.specs.Extents.{needle_points_of_acts}
use Rattle.design_review.proofs.needle_points.needle_points_in.Given as goal

-- the points so far, and those of the commands that are left
abbrev pub invariant-loop-command : goal.invariant-loop-command
invariant-loop-command l =
    l.points ++ needle_points_of_acts (acts_from (l.command-index + 1) l.thread.loose l.thread.jumped (drop l.command-index l.commands))
    ≡ needle_points_of_acts (acts_along l.commands)
