use Rattle.std.specs.HashSet.{contains}
use Rattle.met_drawings.specs.PassedSegments.{is_same_passed}
use Rattle.met_drawings.proofs.PassedLemmas.{passed_with}
use Rattle.met_drawings.proofs.passed_segments.PassedSegments.with.Goals as goal

pub invariant_of-result : goal.invariant_of-result
invariant_of-result c = rw c.in_ok-push.ensures.ok (passed_with c.args.s c.self.inside.all
    (contains is_same_passed c.self.inside.among) (contains is_same_passed c.insert.new.self) c.in_ok-insert.ensures.updates.0
    c.self.invariant)
