-- Theorems on moves that restore a design.
use Rattle.std.specs.Prelude.{◌≡◌, ℤ, neg_ℤ}
use Rattle.design_model.specs.Designs.{DesignValue}
use Rattle.design_edits.specs.declared.axis.Axis.{Axis}
use Rattle.design_edits.specs.Moves.{mirrored, shifted, turned}

-- Four quarter turns restore a design.
abbrev pub FourQuarterTurnsRestore : Type 0
FourQuarterTurnsRestore = (d : DesignValue) → turned 1 (turned 1 (turned 1 (turned 1 d))) ≡ d

-- Two mirrorings of the same axis restore a design.
abbrev pub TwoMirroringsRestore : Type 0
TwoMirroringsRestore = (a : Axis) (d : DesignValue) → mirrored a (mirrored a d) ≡ d

-- A shift and its opposite restore a design.
abbrev pub OppositeShiftRestores : Type 0
OppositeShiftRestores = (dx dy : ℤ) (d : DesignValue)
    → shifted (neg_ℤ dx) (neg_ℤ dy) (shifted dx dy d) ≡ d
