use Rattle.program_shell.proofs.CallerLemmas.{takes_next}
use Rattle.design_commands.specs.CompareOrders.{compare_first, compare_order}
use Rattle.design_commands.proofs.comparing.compare.Goals as goal

pub returns : goal.returns
returns g c = record {
  prepares = λ m n is other.
      takes_next _ m.reads (compare_first (compare_order c.args.files.first.now c.args.files.second.now c.args.files.threads m n))
      _ _ _ _ _ (c.in_ok-loaded.ensures.loads m is) (c.compare_with.ensures.prepares m n (rw c.in_ok-loaded.ensures.same other));
}
