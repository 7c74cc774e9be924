use Rattle.std.proofs.Common.{◌≡◌, [], All, List, refl, rules, subst}
use Rattle.drawing_picture.proofs.Names.{All-head, All-tail, Point, IsNeedlePoint}
use Rattle.drawing_picture.proofs.half_steps.half_steps.Goals as goal

pub loop-next-init : goal.loop-next-init
loop-next-init c =
    let none : c.new-points.result ≡ [] = search rules in
    let all = subst (λ (ps : List Point). All IsNeedlePoint ps) c.in-Some.ensures.cases.0 c.requires in
    record {
      first = All-head IsNeedlePoint c.in-Some.first.now _ all;
      later = All-tail IsNeedlePoint c.in-Some.first.now _ all;
      points = rw (none, c.in-Some.ensures.cases.0) refl;
    }
