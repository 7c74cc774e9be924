use Rattle.std.proofs.Common.{drop}
use Rattle.cut_certificate.proofs.Names.{graph_of}
use Rattle.cut_certificate.proofs.FitLemmas.{piece_site}
use Rattle.cut_certificate.proofs.LiftLemmas.{AreLifted}
use Rattle.cut_certificate.proofs.lifting.lift.Given as goal

-- the cuts of the moats so far are there
abbrev pub invariant-loop-index : goal.invariant-loop-index
invariant-loop-index l = AreLifted (piece_site (graph_of l.p) l.rows l.moats) (drop l.index l.moats) l.cuts
