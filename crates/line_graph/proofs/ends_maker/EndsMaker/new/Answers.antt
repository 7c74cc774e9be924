use Rattle.std.proofs.Common.{◌∙◌, subst}
use Rattle.line_graph.proofs.Names.{DrawingValue, KeepsDrawingLimits}
use Rattle.line_graph.proofs.PieceLabelLemmas.{labels_are}
use Rattle.line_graph.proofs.ends_maker.EndsMaker.new.Goals as goal

pub invariant_of-result : goal.invariant_of-result
invariant_of-result c = record {
  limits = subst (λ (d : DrawingValue). KeepsDrawingLimits d) c.drawing.view_is c.drawing.invariant.limits;
  joined = c.requires.joined;
  labelled = labels_are c.args.drawing _ _ c.in_ok-links.ensures (rw (← c.as_slice.ensures.value) c.in_ok-labels.ensures.value)
      (c.in_ok-labels.ensures.sized ∙ c.line_count.ensures.value);
  starts_are = c.in_ok-starts.ensures.chosen _;
  ends_are = c.in_ok-ends.ensures.chosen _;
}
