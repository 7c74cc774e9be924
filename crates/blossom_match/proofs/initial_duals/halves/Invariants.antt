use Rattle.std.proofs.Common.{◌≡◌, ◌≢◌, ◌≤◌, ◌<◌, ℕ, get_or, length}
use Rattle.blossom_match.proofs.Names.{entry}
use Rattle.blossom_match.proofs.initial_duals.halves.Given as goal

-- the initial duals so far
abbrev pub invariant-loop-place : goal.invariant-loop-place
invariant-loop-place l = record {
  half : (a b : ℕ) → a < l.place → b < l.t.places → a ≢ b → get_or l.prices.items a 0 ≤ entry l.t a b;
  size : length l.prices.items ≡ l.place;
}
