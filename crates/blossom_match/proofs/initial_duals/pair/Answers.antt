use Rattle.blossom_match.proofs.Names.{search_value, partial_value}
use Rattle.blossom_match.proofs.InitialDualLemmas.{pair_step, paired}
use Rattle.blossom_match.proofs.initial_duals.pair.Goals as goal

pub finish-requires : goal.finish-requires
finish-requires c = pair_step c.args.t.now c.args.place c.args.to (partial_value c.args.from) c.take_place.new.places.items
    (search_value c.in_ok-search.search)
    c.requires
    c.take_place.ensures.counts c.in_ok-search.ensures

pub returns : goal.returns
returns c = paired c.args.t.now c.args.place c.args.to (partial_value c.args.from) c.take_place.new.places.items
    (search_value c.in_ok-search.search) (partial_value c.in_ok-met.met)
    c.requires
    c.take_place.ensures.counts c.take_place.ensures.fewer c.in_ok-search.ensures c.in_ok-met.ensures
