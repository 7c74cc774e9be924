-- Runs of stitches, and the designs that sew them. A run is sewn without a trim inside it. Points
-- are in tenths of a millimetre.
use Rattle.std.specs.Prelude.{◌≡◌, ◌≢◌, ℕ, ◌+◌, ◌-◌, ◌*◌, ◌≤◌, false, List, [], ◌∷◌, ◌++◌, length, map, replicate, All, sum_by}
use Rattle.design_model.specs.declared.act.Act.{Act}
use Rattle.design_model.specs.declared.act.Act.TheVariants as act
use Rattle.design_model.specs.declared.act.NumberedAct.{NumberedAct}
use Rattle.design_model.specs.declared.command.Command.{Command}
use Rattle.design_model.specs.declared.command.Command.TheVariants.{Stitch, Trim, Stop}
use Rattle.design_model.specs.declared.point.Point.{Point}
use Rattle.design_model.specs.Acts.{acts_of, acts_without_numbers}
use Rattle.design_model.specs.Designs.{DesignValue}
use Rattle.step_splitter.specs.Chains.{IsNeedlePoint}
use Rattle.line_graph.specs.declared.limits.TheConstants.{MAX_BLOCKS, MAX_COST, MAX_LINES}
use Rattle.line_graph.specs.declared.pass.Pass.{Pass}
use Rattle.line_graph.specs.Drawings.{DrawingValue, block_of}
use Rattle.line_graph.specs.LineNeedles.{AreClose}
use Rattle.line_graph.specs.Walks.{needles_of_walk}

-- A run: the block in which it is sewn, and its needle points in order.
pub record Run : Type 0 where
  pub block : ℕ
  pub needles : List Point

-- The acts that sew runs, where the run before was in the given block. A run has as many stops as
-- its block is above the one before, a needle act at each of its points, and a trim. No needle act
-- is a float.
abbrev pub sewn_acts_after : ℕ → List Run → List Act
sewn_acts_after block [] = []
sewn_acts_after block (run ∷ rest) =
    replicate (run.block - block) act.Stop
    ++ (map (λ p. act.Needle p false) run.needles ++ act.Trim ∷ sewn_acts_after run.block rest)

-- The acts that sew runs in order, from block 0 on.
abbrev pub sewn_acts : List Run → List Act
sewn_acts runs = sewn_acts_after 0 runs

-- The commands that sew runs, one for each act, where the run before was in the given block.
abbrev pub commands_after : ℕ → List Run → List Command
commands_after block [] = []
commands_after block (run ∷ rest) =
    replicate (run.block - block) Stop
    ++ (map (λ p. Stitch p) run.needles ++ Trim ∷ commands_after run.block rest)

-- The block of a walk: that of the line of its first pass.
abbrev pub block_of_passes : DrawingValue → List Pass → ℕ
block_of_passes d [] = 0
block_of_passes d (pass ∷ rest) = block_of d pass.line

-- The run along a walk: the walk's block and its needle points.
abbrev pub run_of : DrawingValue → List Pass → Run
run_of d walk = record { block = block_of_passes d walk; needles = needles_of_walk d walk }

-- The runs along walks, in order.
abbrev pub runs_of : DrawingValue → List (List Pass) → List Run
runs_of d walks = map (run_of d) walks

-- A design's acts sew the drawing by the given walks. The command numbers of the acts don't matter.
abbrev pub Sews : DrawingValue → List (List Pass) → List NumberedAct → Type 0
Sews d walks acts = acts_without_numbers acts ≡ sewn_acts (runs_of d walks)

-- The design of runs: the drawing's label, the threads of its blocks, and the commands that sew the
-- runs.
abbrev pub design_of_runs : DrawingValue → List Run → DesignValue
design_of_runs d runs = record {
  label = d.label;
  threads = d.threads;
  commands =
      commands_after 0 runs;
}

-- The design that sews a drawing by the given walks.
abbrev pub sewn_design : DrawingValue → List (List Pass) → DesignValue
sewn_design d walks = design_of_runs d (runs_of d walks)

-- A run has a needle point.
abbrev pub HasNeedle : Run → Type 0
HasNeedle run = run.needles ≢ []

-- The design of runs sews the runs, where each has a needle point.
abbrev pub RunsAreSewn : Type 0
RunsAreSewn = (d : DrawingValue) (runs : List Run) → All HasNeedle runs
    → acts_without_numbers (acts_of (design_of_runs d runs)) ≡ sewn_acts runs

-- Needle points of a run: there is one, the needle can reach all, and each lies within the step of
-- the one before on both axes.
pub record AreNear (step : ℕ) (points : List Point) : Type 0 where
  pub some : points ≢ []
  pub in_range : All IsNeedlePoint points
  pub close : AreClose step points

-- The number of stops in the acts that sew runs, where the run before was in the given block.
abbrev pub stops_after : ℕ → List Run → ℕ
stops_after block [] = 0
stops_after block (run ∷ rest) = (run.block - block) + stops_after run.block rest

-- Runs that every format can write: their needle points are near each other, and there are few
-- runs, needle points and stops.
pub record AreWritable (step : ℕ) (runs : List Run) : Type 0 where
  pub near : All (λ (run : Run). AreNear step run.needles) runs
  pub runs_to : length runs ≤ MAX_LINES
  pub needles_to : sum_by (λ (run : Run). length run.needles) runs ≤ 2 * MAX_COST + MAX_LINES
  pub stops_to : stops_after 0 runs + 1 ≤ MAX_BLOCKS
