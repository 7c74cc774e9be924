use Rattle.std.proofs.Common.{length, ap, ◌∙◌}
use Rattle.line_graph.proofs.DrawingNames.{DrawingValue}
use Rattle.line_graph.proofs.MakerLemmas.{step_set}
use Rattle.line_graph.proofs.drawing_maker.DrawingMaker.set_step.Goals as goal

pub invariant_of-self : goal.invariant_of-self
invariant_of-self c =
    step_set _ c.args.step _ _ _ c.self.invariant c.requires.low c.requires.high
    (ap (λ (d : DrawingValue). length d.threads) c.self.view_is ∙ c.requires.early)
