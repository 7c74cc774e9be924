use Rattle.std.proofs.Common.{◌≡◌, ◌++◌, ◌+◌, ◌≤◌, drop, length}
use Rattle.design_model.proofs.Names.{acts_along, acts_from}
use Rattle.design_model.proofs.act_lists.acts_in.Given as goal

-- the acts so far, no more than their commands, and those of the commands that are left
abbrev pub invariant-loop-command : goal.invariant-loop-command
invariant-loop-command l = record {
  count : l.number ≡ l.command-index;
  few : length l.acts ≤ l.number;
  acts : l.acts ++ acts_from (l.number + 1) l.thread.loose l.thread.jumped (drop l.command-index l.commands)
      ≡ acts_along l.commands;
}
