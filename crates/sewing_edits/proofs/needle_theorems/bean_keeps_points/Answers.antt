use Rattle.std.proofs.Common.{None}
use Rattle.sewing_edits.proofs.BeanLemmas.{old_point, points_from, points_to}
use Rattle.sewing_edits.proofs.needle_theorems.bean_keeps_points.Goals as goal

pub returns : goal.returns
returns c = λ times acts p. (λ has. old_point acts p (points_from times None acts p has), λ has. points_to times None acts p has)
