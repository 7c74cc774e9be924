use Rattle.std.proofs.Common.{subst, sym, ◌∙◌}
use Rattle.drawing_edits.proofs.Names.{AreInBlockOrder}
use Rattle.free_ends.proofs.OrderLemmas.{ordered_with}
use Rattle.free_ends.proofs.freed_drawing.free.Goals as goal

pub returns-clause-ordered : goal.returns-clause-ordered
returns-clause-ordered c =
    ordered_with c.in_ok-joined.joined _ _ _ _ c.as_slice-2.result.now c.as_slice-4.result.now
    c.as_slice-3.result.now c.as_slice-5.result.now
    (subst AreInBlockOrder (sym c.starts.ensures) c.requires.ordered.starts)
    (subst AreInBlockOrder (sym c.ends.ensures) c.requires.ordered.ends)
    (c.as_slice-6.ensures.value ∙ c.in_ok-starts.ensures) (c.as_slice-7.ensures.value
    ∙ c.in_ok-ends.ensures) c.in_ok-joined.ensures.starts
    c.in_ok-joined.ensures.ends
