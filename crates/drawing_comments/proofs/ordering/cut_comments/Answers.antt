use Rattle.drawing_comments.proofs.ordering.cut_comments.Goals as goal

pub returns-clause-are : goal.returns-clause-are
returns-clause-are c = rw c.in_ok-cut.ensures (c.cuts_keep_comments.ensures c.args.comments.now c.args.lines.now c.args.sections.now
    c.requires)
