use Rattle.std.proofs.Common.{◌≡◌, length}
use Rattle.cut_certificate.proofs.moat_distances.blank.Given as goal

-- the number of lists so far
abbrev pub invariant-loop-index : goal.invariant-loop-index
invariant-loop-index l = length l.reaches.items ≡ l._index
