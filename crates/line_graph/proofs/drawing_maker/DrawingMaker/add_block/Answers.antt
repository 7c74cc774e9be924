use Rattle.std.proofs.Common.{◌≢◌, length, ◌∙◌}
use Rattle.line_graph.proofs.MakerLemmas.{block_put}
use Rattle.line_graph.proofs.drawing_maker.DrawingMaker.add_block.Goals as goal

pub invariant_of-self : goal.invariant_of-self
invariant_of-self c =
    let made = rw c.if-self.false at c.self.invariant in
    let few : length c.self.inside.parts.threads.items ≢ 255 = λ full. c.if-len-eq-MAX_BLOCKS.false (c.len.ensures.value ∙ full) in
    rw c.push.ensures.items (block_put _ c.args.thread _ _ made c.ranges.thread.fits few)
