use Rattle.std.specs.HashMap.{get}
use Rattle.line_meetings.specs.KnownPoints.{is_same_point_key}
use Rattle.line_meetings.proofs.KnownLemmas.{one_more_known}
use Rattle.line_meetings.proofs.known_points.keep_joined.Goals as goal

pub returns : goal.returns
returns c = λ gap segments are known.
    one_more_known gap segments c.args.p.now c.args.joined (get is_same_point_key c.empty_if_full.new.known)
    (get is_same_point_key c.put_joined.new.known) are (rw c.key.ensures at c.in_ok-put_joined.ensures)
    (c.empty_if_full.ensures gap segments known)
