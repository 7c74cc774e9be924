use Rattle.std.proofs.Common.{◌∙◌, length, ◌++◌, ap, sym}
use Rattle.std.proofs.lemmas.Option.{slice_get_past}
use Rattle.near_pieces.proofs.Names.{append-nil, if_there}
use Rattle.near_pieces.proofs.NearLemmas.{past_end}
use Rattle.near_pieces.proofs.near_lines.put_line_numbered.Goals as goal

pub returns-in-None : goal.returns-in-None
returns-in-None c = sym (ap (λ line. c.args.all.now ++ if_there line)
    (slice_get_past c.args.lines.now c.args.index (past_end (length c.args.lines.now) c.args.index c.in-None.ensures.lookup.0))
    ∙ append-nil c.args.all.now)
