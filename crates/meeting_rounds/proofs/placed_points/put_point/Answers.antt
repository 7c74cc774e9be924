use Rattle.std.specs.HashMap.{get}
use Rattle.line_sections.specs.Spots.{is_same_spot}
use Rattle.meeting_rounds.proofs.SpotLemmas.{point_added}
use Rattle.meeting_rounds.proofs.placed_points.put_point.Goals as goal

pub returns : goal.returns
returns c = point_added c.args.at c.args.p c.taken_from-points.result (get is_same_spot c.args.placed.now)
    (get is_same_spot c.taken_from-points.new.placed) (get is_same_spot c.insert.new.self) c.taken_from-points.ensures.taken
    c.taken_from-points.ensures.others (rw c.in_ok-push.ensures.ok at c.in_ok-insert.ensures.updates.0)
