use Rattle.std.proofs.Common.{◌+◌, ◌-◌, length, arith}
use Rattle.spaced_lines.proofs.ChoiceLemmas.{counted, next_best}
use Rattle.spaced_lines.proofs.best_choices.tried_alone.Goals as goal

pub returns-clause-within : goal.returns-clause-within
returns-clause-within c = c.better-best.ensures.within (length c.args.after.now)
    (c.requires.within c.args.tried.left _ (omega (arith, c.requires.sized, c.requires.there))) c.requires.near

pub returns-clause-value : goal.returns-clause-value
returns-clause-value c = λ stays nearest room so_far.
    next_best stays c.args.rule c.args.p nearest c.args.after.now c.args.bests.now c.args.tried.left (c.args.tried.left - 1 + 1)
    _ _ c.args.tried.best c.better-best.result c.requires.there c.requires.sized (omega (arith, c.requires.some))
    (c.better-best.ensures.value stays (counted stays c.args.tried.left c.args.after.now room)) so_far
