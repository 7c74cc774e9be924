use Rattle.std.proofs.Common.{◌≡◌, rules}
use Rattle.line_graph.proofs.MakerLemmas.{label_set}
use Rattle.line_graph.proofs.drawing_maker.DrawingMaker.set_label.Goals as goal

pub invariant_of-self : goal.invariant_of-self
invariant_of-self c =
    let is : c.try_extend_from_slice.new.self.items ≡ c.args.word.now = search rules in
    rw is (label_set _ c.args.word.now _ _ _ c.self.invariant c.requires)
