use Rattle.std.proofs.Common.{subst}
use Rattle.stitch_cli.proofs.Names.{Meaning, RunsPurePlan, satisfies, change_list, IsRewriteResult, rewrite_read, settles_taken, same_format, rewrite_order}
use Rattle.stitch_cli.proofs.rewriting.rewrite_by.Goals as goal

pub returns-clause-prepares : goal.returns-clause-prepares
returns-clause-prepares g c = λ s t of_source of_target.
    settles_taken _ s.reads (rewrite_read (rewrite_order c.args.names s t (change_list c.args.changes.now))) _ _ _ _
    (c.in_ok-loaded.ensures.loads s of_source)
    (subst (λ (here : Meaning). RunsPurePlan (satisfies
    (IsRewriteResult (rewrite_order c.args.names s here (change_list c.args.changes.now))
    c.in_ok-loaded.loaded)) c.rewrite_loaded.result)
    (same_format _ _ c.args.indexes.target _ t c.in_ok-loaded.ensures.same c.format_at.ensures of_target) (c.rewrite_loaded.ensures s))
