use Rattle.euler_tour.proofs.partial_tour.begin.Goals as goal

pub returns-in_ok-with_first_line-in-None-clause-keeps : goal.returns-in_ok-with_first_line-in-None-clause-keeps
returns-in_ok-with_first_line-in-None-clause-keeps c = c.in_ok-with_first_line-in-None.ensures.keeps c.args.copies.now
    c.in_ok-t.ensures.keeps
