use Rattle.program_shell.proofs.CallerLemmas.{settles_taken}
use Rattle.design_commands.specs.CompareOrders.{compare_order, compare_second}
use Rattle.design_commands.proofs.comparing.compare_with.Goals as goal

pub returns : goal.returns
returns g c = record {
  prepares = λ m n is.
      settles_taken _ n.reads (compare_second (compare_order c.args.files.first.now c.args.files.second.now c.args.files.threads m n)
      c.args.loaded.now.design) _ _ _ _ (c.in_ok-other.ensures.loads n is) c.compared_with.ensures;
}
