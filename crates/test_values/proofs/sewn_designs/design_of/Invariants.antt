use Rattle.std.proofs.Common.{◌≡◌, take}
use Rattle.design_model.specs.Designs.{empty_design}
use Rattle.test_values.proofs.sewn_designs.design_of.Given as goal

-- the commands so far
abbrev pub invariant-loop-command : goal.invariant-loop-command
invariant-loop-command l = l.design ≡ record empty_design { commands = take l.command-index l.commands }
