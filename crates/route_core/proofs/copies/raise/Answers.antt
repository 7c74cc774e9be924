use Rattle.route_core.proofs.CopyLemmas.{more_is}
use Rattle.route_core.proofs.copies.raise.Goals as goal

pub returns : goal.returns
returns c = more_is c.args.copies.now c.args.k
