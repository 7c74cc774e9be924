-- Designs that are sewn run by run. Used only inside this crate.
use Rattle.std.specs.Prelude.{ℕ, ◌-◌, ◌<◌, List, [], ◌∷◌, ◌++◌, All, drop, length, map, replicate}
use Rattle.std.specs.List.{flat_map}
use Rattle.odd_cuts.specs.declared.certificate.PieceCert.{PieceCert}
use Rattle.design_model.specs.declared.command.Command.{Command}
use Rattle.design_model.specs.declared.command.Command.TheVariants as command
use Rattle.design_model.specs.declared.point.Point.{Point}
use Rattle.line_graph.specs.declared.pass.Pass.{Pass}
use Rattle.line_graph.specs.Drawings.{DrawingValue}
use Rattle.line_graph.specs.Walks.{needles_of_pass}

-- The commands of a run after a run in the block `before`. There is a stop for each block up to the
-- run's own, a stitch at each needle point, and a trim.
abbrev pub run_commands : (before block : ℕ) → List Point → List Command
run_commands before block points =
    replicate (block - before) command.Stop
    ++ (map (λ p. command.Stitch p) points ++ command.Trim ∷ [])

-- The needle points of passes, without the first of each.
abbrev pub later_needles : DrawingValue → List Pass → List Point
later_needles d walk = flat_map (λ (next : Pass). drop 1 (needles_of_pass d next)) walk

-- Each pass of a walk follows a line of the drawing.
abbrev pub AreDrawn : DrawingValue → List Pass → Type 0
AreDrawn d walk = All (λ (pass : Pass). pass.line < length d.lines) walk

-- Each pass of the walks of all certificates follows a line of the drawing.
abbrev pub AllDrawn : DrawingValue → List PieceCert → Type 0
AllDrawn d pieces = All (λ (piece : PieceCert). AreDrawn d piece.walk) pieces
