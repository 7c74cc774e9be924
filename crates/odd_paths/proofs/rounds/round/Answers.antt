use Rattle.std.proofs.Common.{sym}
use Rattle.odd_paths.proofs.PassKeeping.{keeps_on, sweep_keeps, sweep_settles}
use Rattle.odd_paths.proofs.PlaceLemmas.{still_within}
use Rattle.odd_paths.proofs.rounds.round.Goals as goal

pub returns-clause-keeps : goal.returns-clause-keeps
returns-clause-keeps c =
    let both = keeps_on _ _ _ _ c.backwards.ensures c.forwards.ensures in
    keeps_on _ _ _ _ both
    (sweep_keeps c.args.edges.now c.forwards.new.table c.sweep.new.table c.sweep.result
    (still_within c.args.edges.now _ _ (sym both.size) c.requires.ends)
    c.sweep.auto.table c.sweep.ensures.capped c.sweep.ensures.value c.sweep.ensures.weight)

pub returns-clause-settled : goal.returns-clause-settled
returns-clause-settled c = λ none.
    sweep_settles c.args.edges.now c.forwards.new.table c.sweep.new.table c.sweep.ensures.value (c.sweep.ensures.reported none)
