use Rattle.std.proofs.Common.{List, ap, cond, true, ◌∙◌}
use Rattle.drawing_review.specs.Meetings.{is_same_grid_point}
use Rattle.drawing_review.specs.declared.joined_points.Place.{Place}
use Rattle.drawing_review.specs.JoinedPoints.{is_among}
use Rattle.drawing_review.proofs.JointLemmas.{put_place}
use Rattle.drawing_review.proofs.joined_points.JoinedPoints.put.Goals as goal

pub returns : goal.returns
returns c = λ q.
    put_place c.args.p q c.place_at.result c.self.inside.places.keys c.insert.new.self.keys c.place_at.ensures
    c.in_ok-insert.ensures.updates.0
    ∙ ap (λ (places : List Place). cond (is_same_grid_point c.args.p q) true (is_among places q)) c.self.view_is
