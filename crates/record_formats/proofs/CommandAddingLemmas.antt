-- What stays of a design while commands are added to it.
use Rattle.std.proofs.Common.{◌∙◌}
use Rattle.design_model.specs.Designs.{DesignValue}
use Rattle.record_formats.specs.CommandAdding.{SameButCommands}

-- what stayed twice stayed
pub same_on : {a b c : DesignValue} → SameButCommands a b → SameButCommands b c → SameButCommands a c
same_on first next = record { label = next.label ∙ first.label; threads = next.threads ∙ first.threads }
