use Rattle.std.proofs.Common.{refl}
use Rattle.line_graph.proofs.DegreeLemmas.{set_few}
use Rattle.line_graph.proofs.degrees.count_end.Goals as goal

pub returns-clause-few : goal.returns-clause-few
returns-clause-few c = λ j. rw c.add_one.ensures (set_few c.args.degrees.now.items c.args.junction j _ c.requires.there refl)
