use Rattle.std.proofs.Common.{◌≡◌, ◌+◌, ◌++◌, not, IsTrue, drop, length}
use Rattle.std.specs.List.{list_all, position_from}
use Rattle.design_edits.specs.Moves.{first_out_of_range}
use Rattle.design_model.specs.Commands.{is_command_in_range}
use Rattle.sewing_edits.specs.ScaleSteps.{scaled_commands}
use Rattle.sewing_edits.proofs.scales.scale_commands.Given as goal

-- none of the commands so far is out of range, and all of them are in the new design
abbrev pub invariant-loop-command : goal.invariant-loop-command
invariant-loop-command l = record {
  number : l.number ≡ l.command-index;
  count : length l.out.commands ≡ l.command-index;
  in_range : IsTrue (list_all is_command_in_range (drop l.command-index l.commands));
  first : position_from (λ c. not (is_command_in_range c)) (l.number + 1)
      (scaled_commands l.percent (drop l.command-index l.commands))
      ≡ first_out_of_range (scaled_commands l.percent l.commands);
  others : l.out ≡ record l.fn.out { commands = l.out.commands };
  commands : l.out.commands ++ scaled_commands l.percent (drop l.command-index l.commands)
      ≡ scaled_commands l.percent l.commands;
}
