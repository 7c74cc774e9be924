use Rattle.std.specs.HashMap.{get}
use Rattle.design_picture.proofs.PassLemmas.{earlier}
use Rattle.design_picture.specs.Passes.{is_same_stitch}
use Rattle.design_picture.proofs.links.pass.Goals as goal

pub returns-clause-value : goal.returns-clause-value
returns-clause-value c =
    earlier (get is_same_stitch c.args.passes.now) c.args.stitch c.turned.result c.forward_of.result c.kept_passes-kept.result
    c.leads_forward.result c.leads_forward-2.result c.toward-along.result c.toward-against.result c.forward_of.ensures
    c.kept_passes-kept.ensures c.leads_forward.ensures c.turned.ensures c.leads_forward-2.ensures c.toward-along.ensures.value
    c.toward-against.ensures.value
