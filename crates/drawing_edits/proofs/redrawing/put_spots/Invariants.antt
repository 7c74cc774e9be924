use Rattle.std.proofs.Common.{◌≡◌, drop}
use Rattle.drawing_edits.proofs.Names.{with_walk_ends}
use Rattle.drawing_edits.proofs.redrawing.put_spots.Given as goal

-- the spots so far are added: the result depends on the drawing with them and on the others
abbrev pub invariant-loop-spot : goal.invariant-loop-spot
invariant-loop-spot l = with_walk_ends l.is_start l.maker (drop l.spot-index l.spots) ≡ with_walk_ends l.is_start l.fn.maker l.spots
