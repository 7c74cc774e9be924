-- Starts and ends of a drawing whose lines meet are in the order of their blocks.
use Rattle.std.proofs.Common.{◌≡◌, ℕ, List, map, subst, sym}
use Rattle.std.specs.List.Sorted.{IsNonDecreasing}
use Rattle.drawing_commands.proofs.Names.{DrawingValue, HasOrderedEnds, Spot}

-- A drawing whose starts and ends are in the blocks of those of another has them in order where that one has.
pub meet_ordered : (d joined : DrawingValue) → HasOrderedEnds d
    → map (λ (s : Spot). s.block) joined.starts ≡ map (λ (s : Spot). s.block) d.starts
    → map (λ (s : Spot). s.block) joined.ends ≡ map (λ (s : Spot). s.block) d.ends → HasOrderedEnds joined
meet_ordered d joined ordered starts ends = record {
  starts = subst (λ (blocks : List ℕ). IsNonDecreasing blocks) (sym starts) ordered.starts;
  ends = subst (λ (blocks : List ℕ). IsNonDecreasing blocks) (sym ends) ordered.ends;
}
