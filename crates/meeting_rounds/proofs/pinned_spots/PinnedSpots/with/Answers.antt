use Rattle.std.specs.HashSet.{contains}
use Rattle.line_sections.specs.Spots.{is_same_spot}
use Rattle.meeting_rounds.proofs.SpotLemmas.{pinned_with}
use Rattle.meeting_rounds.proofs.pinned_spots.PinnedSpots.with.Goals as goal

pub invariant_of-result : goal.invariant_of-result
invariant_of-result c = rw c.in_ok-push.ensures.ok (pinned_with c.args.at c.self.inside.all
    (contains is_same_spot c.self.inside.among) (contains is_same_spot c.insert.new.self) c.in_ok-insert.ensures.updates.0
    c.self.invariant)
