use Rattle.step_splitter.proofs.segment.split.Goals as goal

pub returns-clause-leads : goal.returns-clause-leads
returns-clause-leads c =
    rw (c.in_ok-split_into.ensures.value, c.new-points.ensures) c.in_ok-split_into.ensures.leads
