use Rattle.std.specs.HashMap.{get}
use Rattle.line_sections.specs.Spots.{is_same_spot}
use Rattle.meeting_rounds.proofs.SpotLemmas.{target_with}
use Rattle.meeting_rounds.proofs.spot_moves.SpotMoves.with.Goals as goal

pub invariant_of-result : goal.invariant_of-result
invariant_of-result c = rw c.in_ok-push.ensures.ok (target_with c.args.one c.self.inside.all
    (get is_same_spot c.self.inside.targets) (get is_same_spot c.insert.new.self) c.in_ok-insert.ensures.updates.0
    c.self.invariant)
