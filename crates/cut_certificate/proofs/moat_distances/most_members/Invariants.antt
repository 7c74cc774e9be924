use Rattle.std.proofs.Common.{◌≤◌, All, length, take}
use Rattle.cut_certificate.proofs.Names.{Moat}
use Rattle.cut_certificate.proofs.moat_distances.most_members.Given as goal

-- none of the moats so far has more
abbrev pub invariant-loop-m : goal.invariant-loop-m
invariant-loop-m l = All (λ (m : Moat). length m.members ≤ l.most) (take l.m-index l.moats)
