use Rattle.std.proofs.Common.{◌∙◌, length, ap, sym}
use Rattle.std.proofs.lemmas.Option.{slice_get_past}
use Rattle.near_pieces.proofs.Names.{if_put}
use Rattle.near_pieces.proofs.NearLemmas.{nothing_put, past_end}
use Rattle.near_pieces.proofs.near_lines.put_numbered.Goals as goal

pub returns-in-None : goal.returns-in-None
returns-in-None c = nothing_put c.args.lines.now c.args.near.now ∙ ap (λ piece. if_put c.args.lines.now piece c.args.near.now)
    (sym (slice_get_past c.args.run.now c.args.index (past_end (length c.args.run.now) c.args.index c.in-None.ensures.lookup.0)))
