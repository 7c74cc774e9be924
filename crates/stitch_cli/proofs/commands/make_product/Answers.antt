use Rattle.std.proofs.Common.{sym}
use Rattle.stitch_cli.proofs.commands.make_product.Goals as goal

pub returns-in-Sample-clause-answers : goal.returns-in-Sample-clause-answers
returns-in-Sample-clause-answers g c =
    rw (sym c.in-Some.ensures.value, c.in-Sample.is) (record { is = c.sample.ensures.at _ })
