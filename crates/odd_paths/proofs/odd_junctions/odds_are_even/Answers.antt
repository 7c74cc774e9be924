use Rattle.odd_paths.proofs.DegreeLemmas.{even_few}
use Rattle.odd_paths.proofs.odd_junctions.odds_are_even.Goals as goal

pub returns : goal.returns
returns c = even_few
