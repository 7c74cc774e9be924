use Rattle.std.proofs.Common.{◌≡◌, ◌++◌, drop}
use Rattle.drawing_picture.proofs.Names.{way_points}
use Rattle.drawing_picture.proofs.band_texts.put_way.Given as goal

-- the text so far and the points that are left are all of the way
abbrev pub invariant-loop-point : goal.invariant-loop-point
invariant-loop-point l = l.text ++ way_points (drop l.point-index l.way) ≡ l.fn.text ++ way_points l.fn.way
