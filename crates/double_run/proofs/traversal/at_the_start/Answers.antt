use Rattle.std.proofs.Common.{◌∙◌}
use Rattle.double_run.proofs.Names.{graph_of}
use Rattle.double_run.proofs.StepLemmas.{begins_all, begins_chains}
use Rattle.double_run.proofs.traversal.at_the_start.Goals as goal

pub returns-clause-keeps : goal.returns-clause-keeps
returns-clause-keeps c =
    begins_all (graph_of c.args.p.now) c.new.result c.new-2.result.items c.in_ok-vec.field-0.items c.as_slice-2.result.now c.new.ensures
    c.new-2.ensures.items (rw c.len-2.ensures at c.in_ok-vec.ensures.items_if_clones_equal (λ y h. h)) c.as_slice-2.ensures

pub returns-clause-ready : goal.returns-clause-ready
returns-clause-ready c =
    begins_chains (graph_of c.args.p.now) c.in_ok-vec.field-0.items c.in_ok-chain.field-0.last.items c.in_ok-chain.field-0.before.items
    c.as_slice-2.result.now c.args.p.now.kept c.as_slice-2.ensures (c.in_ok-chain.ensures.junctions ∙ c.len.ensures)
    (rw c.as_slice.ensures at c.in_ok-chain.ensures.all) (rw c.as_slice.ensures at c.in_ok-chain.ensures.before)
    (rw c.as_slice.ensures at c.in_ok-chain.ensures.last)
