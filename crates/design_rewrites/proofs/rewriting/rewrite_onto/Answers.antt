use Rattle.std.proofs.Common.{true, false}
use Rattle.design_model.proofs.CallerLemmas.{acts_in_range}
use Rattle.design_rewrites.proofs.rewriting.rewrite_onto.Goals as goal

pub put_each-requires-clause-acts : goal.put_each-requires-clause-acts
put_each-requires-clause-acts g c =
    rw (c.as_slice.ensures, c.in_ok-acts.ensures.value)
    (acts_in_range 1 true false c.args.design.now.commands c.keeps_limits.ensures.in_range)
