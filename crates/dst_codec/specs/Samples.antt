-- A design for worked facts and tests.
use Rattle.std.specs.Prelude.{pos, List, [], ◌∷◌}
use Rattle.design_model.specs.declared.command.Command.{Command}
use Rattle.design_model.specs.declared.command.Command.TheVariants.{Stitch, Trim}
use Rattle.design_model.specs.Designs.{DesignValue}

-- The commands of a square of 3 mm, from the origin to the right and downwards, and a trim.
abbrev pub square_commands : List Command
square_commands = Stitch (record { x = pos 0; y = pos 0 })
    ∷ Stitch (record { x = pos 30; y = pos 0 })
    ∷ Stitch (record { x = pos 30; y = pos 30 }) ∷ Stitch (record { x = pos 0; y = pos 30 })
    ∷ Stitch (record { x = pos 0; y = pos 0 }) ∷ Trim ∷ []

-- A design of one square, without a label and threads.
abbrev pub square_design : DesignValue
square_design = record { label = []; threads = []; commands = square_commands }
