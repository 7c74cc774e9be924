-- Designs with commands added at the end.
use Rattle.std.specs.Prelude.{List, ◌++◌}
use Rattle.design_model.specs.declared.command.Command.{Command}
use Rattle.design_model.specs.Designs.{DesignValue}

-- A design with further commands at the end.
abbrev pub with_commands : DesignValue → List Command → DesignValue
with_commands d more = record d { commands = d.commands ++ more }
