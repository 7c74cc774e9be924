use Rattle.std.proofs.Common.{ℕ, ◌≡◌, ◌-◌, ◌<◌, ◌≤◌, length, min}
use Rattle.cut_certificate.proofs.Names.{slice_index}
use Rattle.cut_certificate.proofs.single_moat.lower_past.Given as goal

-- the numbers before j are lowered, the others as they were
abbrev pub invariant-loop-j : goal.invariant-loop-j
invariant-loop-j l = record {
  size : length l.reach ≡ length l.fn.reach;
  low : (k : ℕ) → k < l.j → slice_index l.reach k ≡ min (slice_index l.inner k - l.width) (slice_index l.fn.reach k);
  same : (k : ℕ) → l.j ≤ k → slice_index l.reach k ≡ slice_index l.fn.reach k;
}
