use Rattle.std.proofs.Common.{[], refl}
use Rattle.sewing_edits.specs.declared.thread_edits.ThreadEdit.TheVariants as edit
use Rattle.sewing_edits.proofs.ThreadActLemmas.{edited_twice}
use Rattle.sewing_edits.proofs.ThreadTieLemmas.{bared_tied}
use Rattle.sewing_edits.proofs.tie_theorems.bare_forgets_tie.Goals as goal

pub returns : goal.returns
returns c = λ len acts is ordered. edited_twice edit.Bare (edit.Tie len) edit.Bare [] acts (λ t sewn. bared_tied len t is sewn) refl ordered
