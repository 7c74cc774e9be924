use Rattle.std.proofs.Common.{[], refl}
use Rattle.sewing_edits.specs.declared.thread_edits.ThreadEdit.TheVariants as edit
use Rattle.sewing_edits.proofs.ThreadActLemmas.{order_edited}
use Rattle.sewing_edits.proofs.tie_theorems.ties_keep_order.Goals as goal

pub returns : goal.returns
returns c = λ len acts ordered. order_edited (edit.Tie len) [] acts refl ordered
