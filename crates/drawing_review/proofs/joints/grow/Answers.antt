use Rattle.std.proofs.Common.{◌∙◌, List, subst, sym, arith}
use Rattle.std.proofs.lemmas.List.{nil_from_length}
use Rattle.drawing_review.specs.declared.joined_points.Place.{Place}
use Rattle.drawing_review.specs.JoinedPoints.{AreTestedAlike, is_among}
use Rattle.drawing_review.proofs.JointLemmas.{alike_more, grow_on, grow_past, grow_round, never}
use Rattle.drawing_review.proofs.joints.grow.Goals as goal

pub loop-t-preserved-then-branch : goal.loop-t-preserved-then-branch
loop-t-preserved-then-branch c =
    let puts = rw c.if-branch.true at c.in_ok-put_other.ensures in
    record {
      kept = λ joints p is. grow_on joints p c.loop-t.left.items c.pop.new.self.items c.loop-t.later.items c.in-Some.t c.loop-t.joined
          c.put_other.new.joined c.in-Some.ensures.items puts (c.loop-t.invariant.kept joints p is);
      most = omega (arith, c.in-Some.ensures.cases, c.loop-t.invariant.most);
      shorter = λ is. omega (arith, c.in-Some.ensures.cases, c.loop-t.invariant.most);
      ended = λ is. absurd (never is);
    }

pub loop-t-preserved : goal.loop-t-preserved
loop-t-preserved c =
    let none = rw c.if-branch.false at c.in_ok-put_other.ensures in
    record {
      kept = λ joints p is. grow_past joints p c.loop-t.left.items c.pop.new.self.items c.loop-t.later.items c.push.new.self.items
          c.in-Some.t c.loop-t.joined c.put_other.new.joined c.in-Some.ensures.items c.in_ok-push.ensures.items none.stays
          (c.loop-t.invariant.kept joints p is);
      most = omega (arith, c.in-Some.ensures.cases, c.in_ok-push.ensures.len, c.loop-t.invariant.most);
      shorter = λ is. omega (arith, c.in-Some.ensures.cases, c.in_ok-push.ensures.len, c.loop-t.invariant.shorter is);
      ended = λ is. subst (λ (places : List Place). AreTestedAlike (is_among places) c.push.new.self.items) (sym none.stays)
          (subst (AreTestedAlike (is_among c.loop-t.joined)) (sym c.in_ok-push.ensures.items)
          (alike_more (is_among c.loop-t.joined) c.loop-t.later.items c.in-Some.t (c.loop-t.invariant.ended is)
          (none.first ∙ sym none.second)));
    }

pub returns : goal.returns
returns c = record {
  kept = λ joints p is. grow_round joints p c.loop-t.left.items c.loop-t.later.items c.loop-t.joined
      (nil_from_length c.loop-t.left.items (omega (arith, c.in_default.ensures.cases))) (c.loop-t.invariant.kept joints p is);
  shorter = λ is. omega (arith, c.loop-t.invariant.shorter is);
  ended = c.loop-t.invariant.ended;
}
