use Rattle.std.proofs.Common.{◌≡◌, length}
use Rattle.design_model.proofs.Names.{grown_optional_extent}
use Rattle.design_model.proofs.design_extent.extent_over.Given as goal

-- the extent so far, grown by the points that are left
abbrev pub invariant-loop-rest : goal.invariant-loop-rest
invariant-loop-rest l = grown_optional_extent l.over l.rest ≡ grown_optional_extent l.fn.extent l.points

abbrev pub decreases-loop-rest : goal.decreases-loop-rest
decreases-loop-rest l = length l.rest
