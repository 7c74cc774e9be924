use Rattle.stitch_trace.proofs.Names.{contains, is_same_directed_link}
use Rattle.stitch_trace.proofs.MoveLemmas.{kept_both}
use Rattle.stitch_trace.proofs.new_links.note_link.Goals as goal

pub returns-clause-kept : goal.returns-clause-kept
returns-clause-kept c =
    kept_both c.args.link c.turned.result (contains is_same_directed_link c.args.sewn.now)
    (contains is_same_directed_link c.insert.new.self)
    (contains is_same_directed_link c.insert-2.new.self) c.turned.ensures c.in_ok-is_new.ensures.updates.0 c.in_ok-insert.ensures.updates.0
