use Rattle.stitch_cli.proofs.Names.{stitch, can_finish, ends}
use Rattle.stitch_cli.proofs.CommandLemmas.{stitch_sound}
use Rattle.stitch_cli.proofs.running.run.Goals as goal

pub finish-requires : goal.finish-requires
finish-requires g c = can_finish stitch _ _ _ _ c.make_product-made.ensures.answers

pub returns-clause-ends : goal.returns-clause-ends
returns-clause-ends g c = ends stitch (stitch_sound c.pieces_are_unique.ensures) _ _ _ _ _ _ _ _ c.make_product-made.ensures.answers
    (rw (c.name.ensures, c.usage.ensures) at c.finish.ensures)

pub returns-clause-routes : goal.returns-clause-routes
returns-clause-routes g c = (c.outcomes_mean_headline.ensures _ _ _ _ (returns-clause-ends g c)).0

pub returns-clause-checks : goal.returns-clause-checks
returns-clause-checks g c = (c.outcomes_mean_headline.ensures _ _ _ _ (returns-clause-ends g c)).1
