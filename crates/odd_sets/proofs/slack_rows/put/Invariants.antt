use Rattle.std.proofs.Common.{◌≡◌, ◌≤◌, ℕ, get_or, take, length}
use Rattle.odd_sets.proofs.Names.{count}
use Rattle.odd_sets.proofs.slack_rows.put.Given as goal

-- the places so far
abbrev pub invariant-loop-a : goal.invariant-loop-a
invariant-loop-a l = record {
  on : (x : ℕ) → 1 ≤ count x (take l.a-index l.places) → get_or l.cells x 0 ≡ l.left;
  off : (x : ℕ) → count x (take l.a-index l.places) ≡ 0 → get_or l.cells x 0 ≡ get_or l.fn.cells x 0;
  size : length l.cells ≡ length l.fn.cells;
}
