use Rattle.std.proofs.Common.{get_or}
use Rattle.blossom_match.proofs.Names.{count_at}
use Rattle.blossom_match.proofs.CandidateLemmas.{aims_next}
use Rattle.blossom_match.proofs.least.best_target.Goals as goal

pub nearer-least-requires-clause-within : goal.nearer-least-requires-clause-within
nearer-least-requires-clause-within c =
    c.requires.within (get_or c.args.ys.now c.loop-b.b-index 0) (count_at c.args.ys.now c.loop-b.b-index c.loop-b-test.true)

pub loop-b-preserved : goal.loop-b-preserved
loop-b-preserved c =
    aims_next c.args.heights.now c.args.reach.now c.args.kind c.args.ys.now c.loop-b.b-index c.args.best c.loop-b.least
    c.nearer-least.result
    c.loop-b-test.true c.loop-b.invariant c.nearer-least.ensures
