use Rattle.cut_certificate.proofs.Names.{lift_input, IsProgress}
use Rattle.cut_certificate.proofs.moat_distances.add_sized.Given as goal

-- the moats with that number of members before the index were processed
abbrev pub invariant-loop-index : goal.invariant-loop-index
invariant-loop-index l = IsProgress (lift_input l.rows l.size l.moats) l.members l.index l.progress.stands.items l.progress.reaches.items
