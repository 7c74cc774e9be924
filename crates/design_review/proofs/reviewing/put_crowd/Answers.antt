use Rattle.std.proofs.Common.{◌∙◌, sym}
use Rattle.design_review.proofs.ReportLemmas.{crowd_put}
use Rattle.design_review.proofs.reviewing.put_crowd.Goals as goal

pub returns : goal.returns
returns c = crowd_put c.args.command c.args.key c.args.needles _ _ _ _
    (sym c.is_in_reported_hole.ensures ∙ c.if-is_in_reported_hole.false) c.in_ok-push.ensures.ok c.in_ok-insert.ensures.updates.0
