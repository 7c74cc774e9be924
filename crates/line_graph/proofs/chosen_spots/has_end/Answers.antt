use Rattle.std.proofs.Common.{pos, ap, sym, ◌∙◌, arith}
use Rattle.line_graph.proofs.Names.{nat_tests, list_any, is_same_point, ends_are}
use Rattle.line_graph.proofs.chosen_spots.has_end.Goals as goal

pub returns : goal.returns
returns c =
    c.is_either.ensures ∙ ap (list_any (is_same_point c.args.at))
    (sym (ends_are c.args.points.now (record { x = pos 0; y = pos 0 }) (grind (arith, nat_tests))))
