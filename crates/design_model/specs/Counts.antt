-- The counts of a design: commands, and acts of each kind.
use Rattle.std.specs.Prelude.{ℕ, ◌+◌, List, length, count_by}
use Rattle.design_model.specs.declared.act.NumberedAct.{NumberedAct}
use Rattle.design_model.specs.declared.command.Command.{Command}
use Rattle.design_model.specs.declared.tally.Counts.{Counts}
use Rattle.design_model.specs.ActKinds.{is_needle, is_trim, is_stop}
use Rattle.design_model.specs.Acts.{acts_along}
use Rattle.design_model.specs.Designs.{DesignValue}

-- The counts of a list of commands.
abbrev pub counts_of_commands : List Command → Counts
counts_of_commands commands = record {
  commands = length commands;
  needles = count_by is_needle (acts_along commands);
  trims = count_by is_trim (acts_along commands);
  stops = count_by is_stop (acts_along commands);
}

-- The counts of a design: commands, needle acts, trim acts and stop acts.
abbrev pub counts_of : DesignValue → Counts
counts_of d = counts_of_commands d.commands

-- The counts with further acts added to each kind.
abbrev pub with_acts : Counts → List NumberedAct → Counts
with_acts counts acts = record counts {
  needles = counts.needles + count_by is_needle acts;
  trims = counts.trims + count_by is_trim acts;
  stops = counts.stops + count_by is_stop acts;
}

-- The number of acts counted, over all kinds.
abbrev pub total_of_counts : Counts → ℕ
total_of_counts counts = counts.needles + counts.trims + counts.stops
