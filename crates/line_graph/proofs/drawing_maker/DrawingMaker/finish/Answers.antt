use Rattle.std.proofs.Common.{◌≢◌, length, arith}
use Rattle.line_graph.proofs.DrawingNames.{nat_tests}
use Rattle.line_graph.proofs.MakerLemmas.{drawn_all}
use Rattle.line_graph.proofs.drawing_maker.DrawingMaker.finish.Goals as goal

pub of_parts-requires : goal.of_parts-requires
of_parts-requires c =
    let made = rw c.if-self.false at c.self.invariant in
    let some : length c.self.inside.parts.threads.items ≢ 0 = grind (arith, nat_tests) in
    drawn_all _ _ _ made some
