use Rattle.std.proofs.Common.{◌≡◌, length, option_map}
use Rattle.format_traits.proofs.Names.{ending_in}
use Rattle.format_traits.proofs.EndingLemmas.{later}
use Rattle.format_traits.proofs.lookup.ending_of.Given as goal

-- the ending so far, unless there is a dot in what is left
abbrev pub invariant-loop-rest : goal.invariant-loop-rest
invariant-loop-rest l = later (option_map (λ e. e.now) l.ending) (ending_in l.rest) ≡ ending_in l.name

abbrev pub decreases-loop-rest : goal.decreases-loop-rest
decreases-loop-rest l = length l.rest
