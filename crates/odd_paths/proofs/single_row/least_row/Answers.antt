use Rattle.odd_paths.proofs.RowLemmas.{last_row}
use Rattle.odd_paths.proofs.single_row.least_row.Goals as goal

pub returns : goal.returns
returns c =
    last_row c.args.edges.now c.args.n c.args.from _ c.deref_mut.result.now c.settle.new.row c.in_ok-row.row.items c.requires.graph
    c.requires.from
    c.deref_mut.ensures.value (c.in_ok-row.ensures.items_if_clones_equal (λ y h. h)) c.in_ok-row.ensures.len c.settle.auto.row
    c.settle.ensures.sound c.settle.ensures.settled
