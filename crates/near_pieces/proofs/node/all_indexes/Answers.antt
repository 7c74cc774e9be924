use Rattle.std.proofs.Common.{◌∙◌, ◌++◌, ◌∷◌, [], ap, sym}
use Rattle.near_pieces.proofs.NodeLemmas.{one_more}
use Rattle.near_pieces.proofs.node.all_indexes.Goals as goal

pub loop-index-preserved : goal.loop-index-preserved
loop-index-preserved c = c.in_ok-push.ensures.ok ∙ ap (λ l. l ++ c.loop-index.index ∷ []) c.loop-index.invariant
    ∙ sym (one_more c.loop-index.index)
