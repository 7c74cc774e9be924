use Rattle.std.proofs.Common.{◌≡◌, ◌≤◌, drop, length}
use Rattle.step_splitter.proofs.Names.{MAX_COMMANDS, acts_along, acts_after, IsNeedlePoint, IsRefitState}
use Rattle.step_splitter.proofs.refitting.refit_commands.Given as goal

-- the commands of the acts so far, and how the acts that are left go on from them
abbrev pub invariant-loop-command : goal.invariant-loop-command
invariant-loop-command l = record {
  number : l.walk.number ≡ l.command-index;
  place : IsNeedlePoint l.progress.place;
  room : length l.out.commands ≤ MAX_COMMANDS;
  others : l.out ≡ record l.fn.out { commands = l.out.commands };
  acts : IsRefitState l.mode l.limit (acts_along l.commands) l.out.commands l.progress.loose l.progress.place
      (acts_after l.walk (drop l.command-index l.commands));
}
