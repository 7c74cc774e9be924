use Rattle.std.proofs.Common.{◌∙◌}
use Rattle.design_review.specs.KnownReviews.{known_review}
use Rattle.design_review.proofs.ReportLemmas.{hole_noted, no_hole}
use Rattle.design_review.proofs.reviewing.put_hole.Goals as goal

pub returns-in_ok-put_crowd-in-Some : goal.returns-in_ok-put_crowd-in-Some
returns-in_ok-put_crowd-in-Some c = λ points are. hole_noted (known_review c.args.known) points _ _ c.args.command c.in-Some.needles.now
    c.args.at _ _ (rw c.key-in-Some.ensures at c.in_ok-put_crowd-in-Some.ensures)
    (c.in-Some.ensures.value ∙ rw c.key.ensures (c.requires.crowds c.args.at c.requires.in_range c.requires.among)) c.requires.in_range are

pub returns-in-None : goal.returns-in-None
returns-in-None c = λ points are. no_hole (known_review c.args.known) points _ c.args.command c.args.at _
    (c.in-None.ensures.value ∙ rw c.key.ensures (c.requires.crowds c.args.at c.requires.in_range c.requires.among)) are
