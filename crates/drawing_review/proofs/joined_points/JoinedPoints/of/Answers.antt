use Rattle.drawing_review.proofs.JointLemmas.{put_alone}
use Rattle.drawing_review.proofs.joined_points.JoinedPoints.of.Goals as goal

pub returns : goal.returns
returns c = λ q.
    put_alone c.args.p q c.place_at.result c.new-places.result.keys c.insert.new.self.keys c.place_at.ensures c.new-places.ensures.empty
    c.in_ok-insert.ensures.updates.0
