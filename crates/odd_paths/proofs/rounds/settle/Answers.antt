use Rattle.odd_paths.proofs.rounds.settle.Goals as goal

pub returns-then-not-round-clause-settled : goal.returns-then-not-round-clause-settled
returns-then-not-round-clause-settled c = c.round.ensures.settled c.if-not-round.true
