use Rattle.design_model.proofs.RootLemmas.{whole_root_is}
use Rattle.design_model.proofs.lengths.root.Goals as goal

pub returns-clause-value : goal.returns-clause-value
returns-clause-value c = whole_root_is c.args.number c.isqrt.result c.ranges.number.fits
    c.isqrt.ensures.square_le c.isqrt.ensures.next_square_gt
