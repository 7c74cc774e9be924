use Rattle.std.proofs.Common.{List, [], map, subst, sym}
use Rattle.drawing_review.specs.declared.joints.Joint.{Joint}
use Rattle.drawing_review.specs.JoinedPoints.{IsGrowing}
use Rattle.drawing_review.proofs.JointLemmas.{begins_alone, grow_over}
use Rattle.drawing_review.specs.Joints.{joint_of}
use Rattle.drawing_review.proofs.joints.points_joined.Goals as goal

pub loop-left-init : goal.loop-left-init
loop-left-init c =
    subst (λ (left : List Joint). IsGrowing (map joint_of c.args.segments.now) c.args.p left [] c.in_ok-joined.joined)
    (sym c.in_ok-left.ensures) (begins_alone (map joint_of c.args.segments.now) c.args.p c.in_ok-joined.joined c.in_ok-joined.ensures)

pub loop-left-preserved : goal.loop-left-preserved
loop-left-preserved c = c.in_ok-grow.ensures.kept (map joint_of c.args.segments.now) c.args.p c.loop-left.invariant

pub returns : goal.returns
returns c =
    grow_over (map joint_of c.args.segments.now) c.args.p c.grow.new.left.items c.grow.new.joined
    (c.in_ok-grow.ensures.kept (map joint_of c.args.segments.now) c.args.p c.loop-left.invariant)
    (c.in_ok-grow.ensures.ended c.if-branch.false)
