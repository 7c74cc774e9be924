use Rattle.drawing_comments.proofs.finding.find_comments.Goals as goal

pub returns-clause-are : goal.returns-clause-are
returns-clause-are c = rw c.in_ok-found.ensures (c.found_are_comments.ensures c.args.text.now)
