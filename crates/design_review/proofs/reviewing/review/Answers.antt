use Rattle.std.proofs.Common.{true, false, arith}
use Rattle.design_model.specs.Acts.{acts_along}
use Rattle.design_model.proofs.CallerLemmas.{acts_in_range}
use Rattle.design_review.proofs.ReviewLemmas.{as_many_needles, few_needles, needles_in_range}
use Rattle.design_review.proofs.reviewing.review.Goals as goal

pub crowds-requires-clause-few : goal.crowds-requires-clause-few
crowds-requires-clause-few c = rw (c.as_slice.ensures, c.in_ok-needles.ensures)
    (omega (arith, few_needles 1 true false c.args.design.now.commands, c.keeps_limits.ensures.count))

pub crowds-requires-clause-in_range : goal.crowds-requires-clause-in_range
crowds-requires-clause-in_range c = rw (c.as_slice.ensures, c.in_ok-needles.ensures)
    (needles_in_range (acts_along c.args.design.now.commands)
    (acts_in_range 1 true false c.args.design.now.commands c.keeps_limits.ensures.in_range))

pub put_places-requires-clause-threads : goal.put_places-requires-clause-threads
put_places-requires-clause-threads c = rw (c.as_slice-3.ensures, c.in_ok-threads.ensures, c.as_slice-2.ensures, c.in_ok-needles.ensures)
    (as_many_needles (acts_along c.args.design.now.commands))
