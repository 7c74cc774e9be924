-- Worked values of the counts.
use Rattle.std.proofs.Common.{◌≡◌, pos, [], ◌∷◌, refl}
use Rattle.design_model.proofs.Names.{Stitch, Jump, acts_along, counts_of_commands, total_of_counts, with_acts}
use Rattle.design_model.specs.declared.command.Command.TheVariants.{Trim, Stop}
use Rattle.design_model.proofs.ActFacts.{at}

-- nothing is counted of no commands
pub known_counts_of_commands : (counts_of_commands [] ≡ record { commands = 0; needles = 0; trims = 0; stops = 0 })
    -- a jump is a command and no act
    × (counts_of_commands (Jump (at (pos 9)) ∷ Stitch (at (pos 9)) ∷ Stitch (at (pos 7)) ∷ Trim ∷ Stop
    ∷ Stitch (at (pos 5)) ∷ [])
    ≡ record { commands = 6; needles = 3; trims = 1; stops = 1 })
    -- a trim of a loose thread is no act; a stop always is
    × (counts_of_commands (Trim ∷ Stop ∷ Trim ∷ Stitch (at (pos 1)) ∷ Trim ∷ Trim ∷ Stop ∷ [])
    ≡ record { commands = 7; needles = 1; trims = 1; stops = 2 })
known_counts_of_commands = (refl, refl, refl)

-- three needles, one trim and two stops more; the commands stay
pub known_with_acts : with_acts (record { commands = 50; needles = 10; trims = 20; stops = 30 })
    (acts_along (Stitch (at (pos 9)) ∷ Stitch (at (pos 7)) ∷ Trim ∷ Stop ∷ Stitch (at (pos 5)) ∷ Stop ∷ []))
    ≡ record { commands = 50; needles = 13; trims = 21; stops = 32 }
known_with_acts = refl

-- commands aren't acts
pub known_total : total_of_counts (record { commands = 500; needles = 10; trims = 20; stops = 33 }) ≡ 63
known_total = refl
