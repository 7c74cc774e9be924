use Rattle.drawing_edits.proofs.SpotLemmas.{spots_in_range}
use Rattle.drawing_edits.proofs.drawing_edit.move_drawing.Goals as goal

pub moved_spots-requires-clause-spots : goal.moved_spots-requires-clause-spots
moved_spots-requires-clause-spots c = rw c.starts.ensures (spots_in_range c.args.d.now.lines c.args.d.now.starts
    c.keeps_limits.ensures.limits.lines c.keeps_limits.ensures.ends.starts.there)

pub moved_spots-requires-2-clause-spots : goal.moved_spots-requires-2-clause-spots
moved_spots-requires-2-clause-spots c = rw c.ends.ensures (spots_in_range c.args.d.now.lines c.args.d.now.ends
    c.keeps_limits.ensures.limits.lines c.keeps_limits.ensures.ends.ends.there)
