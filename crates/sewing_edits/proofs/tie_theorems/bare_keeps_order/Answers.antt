use Rattle.std.proofs.Common.{[], refl}
use Rattle.sewing_edits.specs.declared.thread_edits.ThreadEdit.TheVariants as edit
use Rattle.sewing_edits.proofs.ThreadActLemmas.{order_edited}
use Rattle.sewing_edits.proofs.tie_theorems.bare_keeps_order.Goals as goal

pub returns : goal.returns
returns c = λ acts ordered. order_edited edit.Bare [] acts refl ordered
