-- Starts and ends of a spaced drawing are in the order of their blocks.
use Rattle.std.proofs.Common.{◌≡◌, List, subst, sym}
use Rattle.drawing_commands.proofs.Names.{DrawingValue, AreInBlockOrder, HasOrderedEnds, Spot}

-- A drawing with the starts and ends of another has them in order where that one has.
pub space_ordered : (d joined : DrawingValue) → HasOrderedEnds d → joined.starts ≡ d.starts → joined.ends ≡ d.ends → HasOrderedEnds joined
space_ordered d joined ordered starts ends = record {
  starts = subst (λ (spots : List Spot). AreInBlockOrder spots) (sym starts) ordered.starts;
  ends = subst (λ (spots : List Spot). AreInBlockOrder spots) (sym ends) ordered.ends;
}
