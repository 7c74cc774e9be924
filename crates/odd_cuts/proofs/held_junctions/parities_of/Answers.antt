use Rattle.odd_cuts.proofs.held_junctions.parities_of.Goals as goal
use Rattle.odd_cuts.proofs.Names.{graph_of, degrees_few}

pub parities_in-requires : goal.parities_in-requires
parities_in-requires c = rw c.as_slice.ensures (degrees_few (graph_of c.args.p.now) c.args.p.now.kept)
