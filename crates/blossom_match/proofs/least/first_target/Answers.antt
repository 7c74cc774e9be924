use Rattle.std.proofs.Common.{get_or}
use Rattle.blossom_match.proofs.Names.{count_at}
use Rattle.blossom_match.proofs.least.first_target.Goals as goal

pub bounds-reach-to : goal.bounds-reach-to
bounds-reach-to c = c.requires.within (get_or c.args.free.now 0 0) (count_at c.args.free.now 0 c.requires.some)
