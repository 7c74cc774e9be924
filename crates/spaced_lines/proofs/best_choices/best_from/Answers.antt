use Rattle.std.proofs.Common.{length, rules}
use Rattle.spaced_lines.proofs.best_choices.best_from.Goals as goal

pub best_beyond-requires-clause-near : goal.best_beyond-requires-clause-near
best_beyond-requires-clause-near c = c.with.ensures.within (length c.args.after.now) (search rules)
