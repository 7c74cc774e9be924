use Rattle.std.proofs.Common.{◌≡◌, ◌+◌, drop}
use Rattle.design_model.proofs.Names.{acts_along, acts_from, grown_optional_extent, extent_of_points, needle_points_of_acts}
use Rattle.design_model.proofs.design_extent.extent_in.Given as goal

-- the extent so far, grown by the needle points of the commands that are left
abbrev pub invariant-loop-command : goal.invariant-loop-command
invariant-loop-command l =
    grown_optional_extent l.extent (needle_points_of_acts
    (acts_from (l.command-index + 1) l.thread.loose l.thread.jumped (drop l.command-index l.commands)))
    ≡ extent_of_points (needle_points_of_acts (acts_along l.commands))
