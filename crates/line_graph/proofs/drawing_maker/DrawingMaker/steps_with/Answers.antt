use Rattle.std.proofs.Common.{arith, sym, ◌∙◌}
use Rattle.line_graph.proofs.MakerLemmas.{line_of}
use Rattle.line_graph.proofs.drawing_maker.DrawingMaker.steps_with.Goals as goal

pub line_steps-requires-clause-line : goal.line_steps-requires-clause-line
line_steps-requires-clause-line c =
    line_of c.args.points.now (omega arith) (sym c.has_repeat.ensures ∙ c.if-has_repeat.false) c.requires
