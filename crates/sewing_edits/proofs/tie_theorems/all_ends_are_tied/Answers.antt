use Rattle.std.proofs.Common.{[], refl}
use Rattle.sewing_edits.proofs.ThreadActLemmas.{all_tied}
use Rattle.sewing_edits.proofs.tie_theorems.all_ends_are_tied.Goals as goal

pub returns : goal.returns
returns c = λ len acts is ordered. all_tied len [] acts is refl ordered
