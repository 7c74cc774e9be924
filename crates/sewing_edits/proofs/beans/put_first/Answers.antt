use Rattle.std.proofs.Common.{◌-◌, ◌++◌}
use Rattle.sewing_edits.proofs.BeanLemmas.{once_more}
use Rattle.sewing_edits.proofs.Names.{needles_at, there_and_back}
use Rattle.sewing_edits.proofs.beans.put_first.Goals as goal

pub returns : goal.returns
returns c = λ rest.
    rw (once_more c.args.left c.args.from c.args.to rest c.requires.some)
    (c.put_once.ensures (needles_at (there_and_back (c.args.left - 1) c.args.from c.args.to) ++ rest))
