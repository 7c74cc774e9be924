-- Empty blocks that are left out act by act. No public clause refers to this file.
use Rattle.std.specs.Prelude.{Bool, true, false, ◌||◌, List, [], ◌∷◌, ◌++◌}
use Rattle.design_model.specs.declared.act.Act.{Act}
use Rattle.design_model.specs.declared.act.Act.TheVariants as act

-- A stop, or nothing.
abbrev pub stop_if : Bool → List Act
stop_if true = act.Stop ∷ []
stop_if false = []

-- The acts that are left, without blocks that have no needle, given whether a stop is to come
-- before the next needle, and whether the block has had a needle.
abbrev pub needled_from : (waits needled : Bool) → List Act → List Act
needled_from waits needled [] = []
needled_from waits needled (act.Needle p float ∷ rest) =
    stop_if waits ++ (act.Needle p float ∷ needled_from false true rest)
needled_from waits needled (act.Trim ∷ rest) = act.Trim ∷ needled_from waits needled rest
needled_from waits needled (act.Stop ∷ rest) = needled_from (waits || needled) false rest
