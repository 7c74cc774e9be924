use Rattle.std.proofs.Common.{◌+◌, ◌*◌}
use Rattle.cut_certificate.proofs.Names.{lift_input, IsProgress}
use Rattle.cut_certificate.proofs.moat_distances.reaches.Given as goal

-- the moats with fewer members were gone through
abbrev pub invariant-loop-half : goal.invariant-loop-half
invariant-loop-half l = IsProgress (lift_input l.rows l.size l.moats) (2 * l.half + 1) 0 l.progress.stands.items l.progress.reaches.items
