use Rattle.std.proofs.Common.{sym, ◌∙◌}
use Rattle.stitch_text.proofs.LabelLemmas.{label_from, label_yes}
use Rattle.stitch_text.proofs.label_line.label_of.Goals as goal

pub returns-then-is_label-clause-some : goal.returns-then-is_label-clause-some
returns-then-is_label-clause-some c =
    label_yes c.args.line.now c.in-Some.label.now c.in-Some.ensures.some (sym c.is_label.ensures ∙ c.if-is_label.true)

pub returns-then-is_label-clause-label : goal.returns-then-is_label-clause-label
returns-then-is_label-clause-label c = label_from c.in-Some.label.now (sym c.is_label.ensures ∙ c.if-is_label.true)
