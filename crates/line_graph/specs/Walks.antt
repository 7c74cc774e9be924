-- The needle points of walks over the lines of a drawing.
use Rattle.std.specs.Prelude.{if◌then◌else◌, List, [], ◌∷◌, ◌++◌, reverse, drop}
use Rattle.std.specs.List.{flat_map}
use Rattle.design_model.specs.declared.point.Point.{Point}
use Rattle.line_graph.specs.declared.pass.Pass.{Pass}
use Rattle.line_graph.specs.Drawings.{DrawingValue}
use Rattle.line_graph.specs.LineNeedles.{needles_of_line}

-- The needle points of a pass: those of its line, in reverse order where the pass goes backwards.
abbrev pub needles_of_pass : DrawingValue → Pass → List Point
needles_of_pass d pass = if pass.back then reverse (needles_of_line d pass.line)
    else needles_of_line d pass.line

-- The needle points of a walk: those of its passes in order. A point that ends one pass and starts
-- the next is taken once.
abbrev pub needles_of_walk : DrawingValue → List Pass → List Point
needles_of_walk d [] = []
needles_of_walk d (pass ∷ rest) =
    needles_of_pass d pass ++ flat_map (λ next. drop 1 (needles_of_pass d next)) rest
