use Rattle.design_model.specs.Acts.{acts_of, acts_without_numbers}
use Rattle.std.proofs.Common.{[], refl}
use Rattle.design_rewrites.proofs.CallerLemmas.{in_order, rewritten_has}
use Rattle.sewing_edits.specs.declared.thread_edits.ThreadEdit.TheVariants as edit
use Rattle.sewing_edits.proofs.ThreadActLemmas.{order_edited}
use Rattle.sewing_edits.proofs.bare_threads.bare.Goals as goal

pub returns-clause-acts : goal.returns-clause-acts
returns-clause-acts c =
    rewritten_has c.args.design.now _ c.edit_threads.result
    (order_edited edit.Bare [] (acts_without_numbers (acts_of c.args.design.now)) refl (in_order c.args.design.now))
    c.edit_threads.ensures
