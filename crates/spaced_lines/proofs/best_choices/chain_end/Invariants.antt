use Rattle.std.proofs.Common.{◌≡◌, ℕ, ◌<◌, ◌≤◌, true}
use Rattle.spaced_lines.specs.BestChoices.{choice_at, is_better}
use Rattle.spaced_lines.proofs.best_choices.chain_end.Given as goal

-- the last choice of the chain is better than each before it, and than the other one
abbrev pub invariant-loop-end : goal.invariant-loop-end
invariant-loop-end l = record {
  most : l.end ≤ l.n;
  some : 1 ≤ l.n → 1 ≤ l.end;
  last : l.last ≡ choice_at l.p l.after l.bests l.end;
  than_other : is_better l.last l.other ≡ true;
  than_each : (k : ℕ) → l.end < k → k ≤ l.n → is_better l.last (choice_at l.p l.after l.bests k) ≡ true;
}

abbrev pub decreases-loop-end : goal.decreases-loop-end
decreases-loop-end l = l.end
