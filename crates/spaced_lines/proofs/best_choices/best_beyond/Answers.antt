use Rattle.std.proofs.Common.{◌+◌, drop, arith}
use Rattle.spaced_lines.proofs.ChoiceLemmas.{begun}
use Rattle.spaced_lines.proofs.best_choices.best_beyond.Goals as goal

pub loop-tried-init : goal.loop-tried-init
loop-tried-init c = record {
  below = omega (arith, c.requires.some, c.min.ensures);
  room = omega (arith, c.min.ensures);
  within = c.requires.near;
  best = λ stays is. begun stays c.args.rule c.args.p c.args.nearest c.args.after.now (drop (c.min.result + 1) c.args.bests.now)
      c.args.room c.min.result is c.min.ensures c.requires.some;
}
