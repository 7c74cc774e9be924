use Rattle.drawing_comments.proofs.moving.spread_comments.Goals as goal

pub returns-clause-are : goal.returns-clause-are
returns-clause-are c = rw c.in_ok-moved.ensures (c.parts_keep_comments.ensures c.args.comments.now c.args.counts.now c.requires)
