-- The acts of a design, computed command by command.
use Rattle.std.specs.Prelude.{◌+◌, List}
use Rattle.design_model.specs.declared.act.NumberedAct.{NumberedAct}
use Rattle.design_model.specs.declared.command.Command.{Command}
use Rattle.design_model.specs.Acts.{acts_from}
use Rattle.design_model.specs.declared.act_scanner.ActScanner.{ActScanner}

-- The acts of the remaining commands, in the state that a scanner has reached.
abbrev pub acts_after : ActScanner → List Command → List NumberedAct
acts_after w commands = acts_from (w.number + 1) w.thread.loose w.thread.jumped commands
