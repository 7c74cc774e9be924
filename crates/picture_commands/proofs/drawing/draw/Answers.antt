use Rattle.std.proofs.Common.{Ok, subst}
use Rattle.format_traits.specs.Meanings.{Meaning}
use Rattle.program_shell.specs.StepOutcomes.{RunsPurePlan}
use Rattle.program_shell.proofs.CallerLemmas.{settles_taken}
use Rattle.picture_commands.specs.Orders.{order_made}
use Rattle.picture_commands.specs.Pictures.{picture_read}
use Rattle.picture_commands.specs.Words.{requested_file}
use Rattle.picture_commands.proofs.drawing.draw.Goals as goal
use Rattle.format_traits.proofs.CallerLemmas.{same_format}

pub returns-clause-prepares : goal.returns-clause-prepares
returns-clause-prepares g c = λ m is.
    settles_taken _ m.reads (picture_read (order_made (requested_file c.args.names) m)) _ _ _ _ (c.in_ok-loaded.ensures.loads m is)
    (subst (λ (here : Meaning). RunsPurePlan (picture_read (order_made (requested_file c.args.names) here)
    (Ok c.in_ok-loaded.loaded)) c.drawn.result)
    (same_format _ _ c.args.index _ m c.in_ok-loaded.ensures.same c.format_at.ensures is) c.drawn.ensures)
