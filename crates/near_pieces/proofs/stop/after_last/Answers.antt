use Rattle.std.proofs.Common.{◌∙◌, length, sym}
use Rattle.near_pieces.proofs.NodeLemmas.{some_left}
use Rattle.near_pieces.proofs.StopLemmas.{last_indexed}
use Rattle.near_pieces.proofs.stop.after_last.Goals as goal

pub returns : goal.returns
returns c = c.after.ensures ∙ sym (last_indexed c.args.at c.args.stops.now _
    (some_left (length c.args.stops.now) c.is_empty.result c.is_empty.ensures c.if-is_empty.false))
