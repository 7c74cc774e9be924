use Rattle.std.proofs.Common.{◌≡◌, ◌≤◌, ◌+◌, drop}
use Rattle.design_model.proofs.Names.{acts_from, total_of_counts, counts_of_commands, with_acts}
use Rattle.design_model.proofs.design_counts.counts_in.Given as goal

-- the counts so far, and those of the acts of the commands that are left
abbrev pub invariant-loop-command : goal.invariant-loop-command
invariant-loop-command l = record {
  most : total_of_counts l.counts ≤ l.command-index;
  counts : with_acts l.counts
      (acts_from (l.command-index + 1) l.thread.loose l.thread.jumped (drop l.command-index l.commands))
      ≡ counts_of_commands l.commands;
}
