use Rattle.line_meetings.proofs.TellingLemmas.{told_together}
use Rattle.line_meetings.proofs.finding.found_among.Goals as goal

pub returns : goal.returns
returns c =
    told_together c.args.gap c.args.near.now c.args.tree.now _ _ _ _ _ _ _ _ _ c.parts.ensures c.parts-2.ensures c.parts-3.ensures
    c.new-found.ensures c.in_ok-put_all_close.ensures c.in_ok-put_all_beside.ensures c.in_ok-put_all_touches.ensures
    c.in_ok-append.ensures.ok
