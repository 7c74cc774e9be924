use Rattle.std.proofs.Common.{◌≡◌, ℕ, ◌<◌, ◌≤◌, ◌⊎◌}
use Rattle.cut_certificate.proofs.Names.{slice_index}
use Rattle.cut_certificate.proofs.moat_cuts.next_level.Given as goal

-- the levels so far are no more than that from which to go on, or no less than the next one
abbrev pub invariant-loop-level : goal.invariant-loop-level
invariant-loop-level l = record {
  more : l.from < l.next;
  most : l.next ≤ l.width;
  level : (l.next ≡ l.width) ⊎ ((j : ℕ) × (j < l.level-index) × (slice_index l.levels j ≡ l.next));
  gap : (j : ℕ) → j < l.level-index → (slice_index l.levels j ≤ l.from) ⊎ (l.next ≤ slice_index l.levels j);
}
