use Rattle.std.proofs.Common.{◌≡◌, ◌==◌, ◌≤◌, ◌<◌, ℕ, ◌&&◌, Some, drop, get_or, length, nat_le}
use Rattle.std.specs.HashMap.{get}
use Rattle.std.specs.Prelude.{if◌then◌else◌}
use Rattle.design_review.specs.Crowds.{crowd_at, has_key}
use Rattle.design_review.specs.KeyWindows.{AreColumnsBefore}
use Rattle.design_review.specs.NeedleKeys.{count_near}
use Rattle.design_review.proofs.crowds.crowds_among.Given as goal

-- the windows are before each key that is left, and with these keys the crowds are all
abbrev pub invariant-loop-key : goal.invariant-loop-key
invariant-loop-key l = record {
  columns : (j : ℕ) → l.key-index ≤ j → j < length l.keys → AreColumnsBefore l.keys (get_or l.keys j 0) l.columns;
  crowds : (key : ℕ) → (if has_key (drop l.key-index l.keys) key && nat_le l.least (count_near l.keys key)
      then Some (count_near l.keys key) else get (λ a b. a == b) l.crowds key) ≡ crowd_at l.least l.keys l.keys key;
}
