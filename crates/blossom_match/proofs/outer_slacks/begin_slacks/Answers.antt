use Rattle.std.proofs.Common.{arith}
use Rattle.blossom_match.proofs.Names.{search_value}
use Rattle.blossom_match.proofs.OuterSlackLemmas.{has_root_row, reaches_root}
use Rattle.blossom_match.proofs.outer_slacks.begin_slacks.Goals as goal

pub add_set_slacks-requires : goal.add_set_slacks-requires
add_set_slacks-requires c = has_root_row (search_value c.args.s.now) c.args.reach.now c.requires.can

pub returns : goal.returns
returns c = λ t hs can size.
    reaches_root t hs (search_value c.args.s.now).root c.args.reach.now c.add_set_slacks.new.reach can
    (omega (arith, c.add_set_slacks.auto.reach, size)) c.add_set_slacks.auto.reach c.requires.far c.add_set_slacks.ensures
