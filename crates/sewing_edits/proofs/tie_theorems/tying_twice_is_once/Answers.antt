use Rattle.std.proofs.Common.{[], refl}
use Rattle.sewing_edits.specs.declared.thread_edits.ThreadEdit.TheVariants as edit
use Rattle.sewing_edits.proofs.ThreadActLemmas.{edited_twice}
use Rattle.sewing_edits.proofs.ThreadTieLemmas.{tied_twice}
use Rattle.sewing_edits.proofs.tie_theorems.tying_twice_is_once.Goals as goal

pub returns : goal.returns
returns c = λ again len acts is ordered. edited_twice (edit.Tie again) (edit.Tie len) (edit.Tie len) [] acts
    (λ t sewn. tied_twice again len t is sewn) refl ordered
