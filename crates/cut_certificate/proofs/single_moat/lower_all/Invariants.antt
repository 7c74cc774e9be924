use Rattle.std.proofs.Common.{ℕ, ◌≡◌, ◌<◌, All, length}
use Rattle.cut_certificate.proofs.Names.{slice_index, lift_input, HasDistance, lowered_distance}
use Rattle.cut_certificate.proofs.single_moat.lower_all.Given as goal

-- lowering by the remaining terminals gives the wanted distances
abbrev pub invariant-loop-rest : goal.invariant-loop-rest
invariant-loop-rest l = record {
  ways : All (HasDistance l.rows (length l.fn.reach) l.moats l.stands l.reaches) l.rest;
  size : length l.reach ≡ length l.fn.reach;
  value : (j : ℕ) → j < length l.fn.reach
      → lowered_distance (lift_input l.rows (length l.fn.reach) l.moats) l.stands l.reaches j (slice_index l.reach j) l.rest
      ≡ lowered_distance (lift_input l.rows (length l.fn.reach) l.moats) l.stands l.reaches j (slice_index l.fn.reach j) l.places;
}

abbrev pub decreases-loop-rest : goal.decreases-loop-rest
decreases-loop-rest l = length l.rest
