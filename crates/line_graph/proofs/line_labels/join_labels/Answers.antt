use Rattle.std.proofs.Common.{refl}
use Rattle.line_graph.proofs.LabelLemmas.{all_lowered}
use Rattle.line_graph.proofs.line_labels.join_labels.Goals as goal

pub returns : goal.returns
returns c =
    all_lowered c.args.link c.args.labels.now.items c.lower-at_label.new.labels.items c.lower-at_other_label.new.labels.items
    c.lower-at_line.new.labels.items c.lower-at_first.new.labels.items _ _ _ _ _ _ _ c.requires.line c.requires.first c.requires.low
    c.label_at-line.ensures.value c.label_at-first.ensures.value _ _ c.label_at.ensures.value c.label_at-2.ensures.value c.min-least.ensures
    c.lower-at_label.ensures c.lower-at_other_label.ensures c.lower-at_line.ensures c.lower-at_first.ensures _ _ _ refl refl refl
