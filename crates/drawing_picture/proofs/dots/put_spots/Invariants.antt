use Rattle.std.proofs.Common.{◌++◌, ◌≡◌, drop}
use Rattle.drawing_picture.proofs.Names.{flat_map, spot_mark}
use Rattle.drawing_picture.proofs.dots.put_spots.Given as goal

-- the marks so far, and those that are left, are all
abbrev pub invariant-loop-spot : goal.invariant-loop-spot
invariant-loop-spot l = l.text ++ flat_map (spot_mark l.mark) (drop l.spot-index l.spots) ≡ l.fn.text ++ flat_map (spot_mark l.mark) l.spots
