use Rattle.std.proofs.Common.{◌∙◌}
use Rattle.euler_tour.proofs.Names.{get_or_default_zero}
use Rattle.euler_tour.proofs.LeftLemmas.{less_is}
use Rattle.euler_tour.proofs.remaining_lines.take_one.Goals as goal

pub returns : goal.returns
returns c =
    let left = c.args.left.now.items in
    rw (c.index_mut.ensures.value ∙ get_or_default_zero left c.args.place _ c.requires.there) (less_is left c.args.place)
