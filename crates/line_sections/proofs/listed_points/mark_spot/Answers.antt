use Rattle.std.proofs.Common.{sym, ◌∙◌}
use Rattle.line_sections.proofs.CutLemmas.{marked_again, spot_marked}
use Rattle.line_sections.proofs.listed_points.mark_spot.Goals as goal

pub returns-then-branch : goal.returns-then-branch
returns-then-branch c = marked_again c.args.spot _ _ _ (sym c.if-branch.true ∙ c.in_ok-set_mark.ensures.had)
    c.in_ok-set_mark.ensures.set c.in_ok-set_mark-2.ensures.set

pub returns : goal.returns
returns c = spot_marked c.args.spot _ _ _ (sym c.if-branch.false ∙ c.in_ok-set_mark.ensures.had)
    c.in_ok-set_mark.ensures.set
