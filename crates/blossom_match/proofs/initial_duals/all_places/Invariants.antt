use Rattle.std.proofs.Common.{◌≡◌, ℕ, cond, ltb, length}
use Rattle.blossom_match.proofs.Names.{count}
use Rattle.blossom_match.proofs.initial_duals.all_places.Given as goal

-- the places so far
abbrev pub invariant-loop-place : goal.invariant-loop-place
invariant-loop-place l = record {
  counts : (x : ℕ) → count x l.places.items ≡ cond (ltb x l.place) 1 0;
  size : length l.places.items ≡ l.place;
}
