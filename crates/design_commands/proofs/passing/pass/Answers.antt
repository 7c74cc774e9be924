use Rattle.std.proofs.Common.{Ok, subst}
use Rattle.format_traits.specs.Meanings.{Meaning}
use Rattle.format_traits.proofs.CallerLemmas.{same_format}
use Rattle.program_shell.specs.StepOutcomes.{RunsPurePlan}
use Rattle.program_shell.proofs.CallerLemmas.{settles_taken}
use Rattle.design_commands.specs.ReviewOrders.{pass_read, review_order}
use Rattle.design_commands.proofs.passing.pass.Goals as goal

pub returns : goal.returns
returns g c = record {
  prepares = λ m is.
      settles_taken _ m.reads (pass_read (review_order c.args.file.now c.args.limits m)) _ _ _ _ (c.in_ok-loaded.ensures.loads m is)
      (subst (λ (here : Meaning). RunsPurePlan (pass_read (review_order c.args.file.now c.args.limits here)
      (Ok c.in_ok-loaded.loaded)) c.passed.result)
      (same_format _ _ c.args.index _ m c.in_ok-loaded.ensures.same c.format_at.ensures is) c.passed.ensures);
}
