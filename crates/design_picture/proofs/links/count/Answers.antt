use Rattle.std.proofs.Common.{Bool, ap, sym, ◌∙◌}
use Rattle.std.specs.HashMap.{get}
use Rattle.design_picture.proofs.PassLemmas.{counts, full_stays}
use Rattle.design_picture.specs.KeptPasses.{is_forward, passes_toward}
use Rattle.design_picture.specs.Passes.{is_same_stitch}
use Rattle.design_picture.proofs.links.count.Goals as goal

pub returns-then-toward-eq-MAX_PASSES : goal.returns-then-toward-eq-MAX_PASSES
returns-then-toward-eq-MAX_PASSES c =
    full_stays (get is_same_stitch c.args.passes.now) c.args.stitch
    (sym (c.toward.ensures.value ∙ ap (λ (way : Bool). passes_toward way c.args.kept) c.leads_forward-is_forward.ensures
    ∙ ap (passes_toward (is_forward c.args.stitch)) c.requires) ∙ c.if-toward-eq-MAX_PASSES.true)

pub returns : goal.returns
returns c =
    counts (get is_same_stitch c.args.passes.now) (get is_same_stitch c.insert.new.self) c.args.stitch c.forward_of.result c.args.kept
    c.with.result c.leads_forward-is_forward.result c.requires c.forward_of.ensures c.leads_forward-is_forward.ensures c.with.ensures
    c.in_ok-insert.ensures.updates.0
