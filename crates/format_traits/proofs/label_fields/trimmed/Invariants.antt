use Rattle.std.proofs.Common.{◌≡◌, length}
use Rattle.format_traits.proofs.Names.{without_end_spaces}
use Rattle.format_traits.proofs.label_fields.trimmed.Given as goal

-- what was dropped is dropped
abbrev pub invariant-loop-rest : goal.invariant-loop-rest
invariant-loop-rest l = without_end_spaces l.rest ≡ without_end_spaces l.text

abbrev pub decreases-loop-rest : goal.decreases-loop-rest
decreases-loop-rest l = length l.rest
