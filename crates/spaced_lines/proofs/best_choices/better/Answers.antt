use Rattle.std.proofs.Common.{rules}
use Rattle.spaced_lines.proofs.ChoiceLemmas.{not_taken}
use Rattle.spaced_lines.proofs.best_choices.better.Goals as goal

pub returns-then-not-is_worth_a_try-clause-value : goal.returns-then-not-is_worth_a_try-clause-value
returns-then-not-is_worth_a_try-clause-value c = λ stays none.
    not_taken stays c.args.rule c.args.p c.args.out.now c.args.b c.args.from.now c.args.other c.requires.some (search rules)
