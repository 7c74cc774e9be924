use Rattle.sewing_edits.specs.EmptyBlocks.{with_needled_threads}
use Rattle.edited_designs.proofs.applied.edit_design.Goals as goal

pub returns-in-Tie : goal.returns-in-Tie
returns-in-Tie c = rw c.in-Tie.is (c.of_rewrite.ensures c.args.design _ c.tie.ensures.value)

pub returns-in-Bare : goal.returns-in-Bare
returns-in-Bare c = rw c.in-Bare.is (c.of_rewrite-in-Bare.ensures c.args.design _ c.bare.ensures.value)

pub returns-in-Cut : goal.returns-in-Cut
returns-in-Cut c = rw c.in-Cut.is (c.of_rewrite-in-Cut.ensures c.args.design _ c.cut.ensures.value)

pub returns-in-Carry : goal.returns-in-Carry
returns-in-Carry c = rw c.in-Carry.is (c.of_rewrite-in-Carry.ensures c.args.design _ c.carry.ensures.value)

pub returns-in-Merge : goal.returns-in-Merge
returns-in-Merge c = rw c.in-Merge.is (c.of_rewrite-in-Merge.ensures c.args.design _ c.merge.ensures.value)

pub returns-in-Bean : goal.returns-in-Bean
returns-in-Bean c = rw c.in-Bean.is (c.of_rewrite-in-Bean.ensures c.args.design _ c.bean.ensures.value)

pub returns-in-DropEmpty : goal.returns-in-DropEmpty
returns-in-DropEmpty c =
    rw c.in-DropEmpty.is (c.of_rewrite-in-DropEmpty.ensures (with_needled_threads c.args.design) _ c.drop_empty.ensures.value)

pub returns-in-Scale : goal.returns-in-Scale
returns-in-Scale c = rw c.in-Scale.is (c.of_scale.ensures c.in-Scale.percent c.args.design c.scale.ensures)
