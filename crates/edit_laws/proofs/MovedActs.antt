-- The acts of a moved design, and the acts that sew a moved drawing.
use Rattle.std.proofs.Common.{◌≡◌, ◌∙◌, ℕ, zero, suc, ◌+◌, ◌-◌, Bool, true, false, ◌&&◌, not, List, [], ◌∷◌, ◌++◌, map, replicate, refl, ap, sym}
use Rattle.edit_laws.proofs.Names.{map-append, Point, moved_drawing, Pass, DrawingValue, needle_points, needles_of_walk, run_of, sewn_acts_after, with_mapped_point, Run, block_of_passes}
use Rattle.design_model.specs.declared.act.Act.{Act}
use Rattle.design_model.specs.declared.act.Act.TheVariants as act
use Rattle.design_model.specs.declared.command.Command.{Command}
use Rattle.design_model.specs.declared.command.Command.TheVariants.{Stitch, Jump, Trim, Stop}
use Rattle.design_model.specs.Acts.{acts_from, acts_without_numbers}
use Rattle.edit_laws.proofs.MovedLines.{block_moved, joined_same, walk_moved}

-- an act with its point mapped
abbrev pub with_mapped_act : (Point → Point) → Act → Act
with_mapped_act f (act.Needle p float) = act.Needle (f p) float
with_mapped_act f act.Trim = act.Trim
with_mapped_act f act.Stop = act.Stop

-- the acts of commands with mapped points
pub acts_moved : (f : Point → Point) (n : ℕ) (loose jumped : Bool) (commands : List Command)
    → acts_without_numbers (acts_from n loose jumped (map (with_mapped_point f) commands))
    ≡ map (with_mapped_act f) (acts_without_numbers (acts_from n loose jumped commands))
acts_moved f n loose jumped [] = refl
acts_moved f n loose jumped (Stitch p ∷ rest) =
    ap (λ acts. act.Needle (f p) (jumped && not loose) ∷ acts) (acts_moved f (n + 1) false false rest)
acts_moved f n loose jumped (Jump p ∷ rest) = acts_moved f (n + 1) loose true rest
acts_moved f n true jumped (Trim ∷ rest) = acts_moved f (n + 1) true jumped rest
acts_moved f n false jumped (Trim ∷ rest) = ap (λ acts. act.Trim ∷ acts) (acts_moved f (n + 1) true false rest)
acts_moved f n true jumped (Stop ∷ rest) = ap (λ acts. act.Stop ∷ acts) (acts_moved f (n + 1) true false rest)
acts_moved f n false jumped (Stop ∷ rest) = ap (λ acts. act.Stop ∷ acts) (acts_moved f (n + 1) true false rest)

-- the run of a block and of needle points
abbrev make : ℕ → List Point → Run
make block needles = record { block = block; needles = needles }

-- a run with its needle points mapped
abbrev pub with_mapped_run : (Point → Point) → Run → Run
with_mapped_run f run = record { block = run.block; needles = map f run.needles }

stops_moved : (f : Point → Point) (n : ℕ) → replicate n act.Stop ≡ map (with_mapped_act f) (replicate n act.Stop)
stops_moved f zero = refl
stops_moved f (suc n) = ap (λ acts. act.Stop ∷ acts) (stops_moved f n)

stitches_moved : (f : Point → Point) (ps : List Point)
    → map (λ p. act.Needle p false) (map f ps) ≡ map (with_mapped_act f) (map (λ p. act.Needle p false) ps)
stitches_moved f [] = refl
stitches_moved f (p ∷ ps) = ap (λ acts. act.Needle (f p) false ∷ acts) (stitches_moved f ps)

-- the acts that sew mapped runs
pub sewn_moved : (f : Point → Point) (block : ℕ) (runs : List Run)
    → sewn_acts_after block (map (with_mapped_run f) runs) ≡ map (with_mapped_act f) (sewn_acts_after block runs)
sewn_moved f block [] = refl
sewn_moved f block (run ∷ rest) =
    let stops : List Act = replicate (run.block - block) act.Stop in
    let stitches : List Act = map (λ p. act.Needle p false) run.needles in
    let later : List Act = sewn_acts_after run.block rest in
    joined_same stops (map (with_mapped_act f) stops) _ (map (with_mapped_act f) (stitches ++ act.Trim ∷ later))
    (stops_moved f (run.block - block))
    (joined_same _ (map (with_mapped_act f) stitches) _ (act.Trim ∷ map (with_mapped_act f) later)
    (stitches_moved f run.needles) (ap (λ acts. act.Trim ∷ acts) (sewn_moved f run.block rest))
    ∙ sym (map-append (with_mapped_act f) stitches (act.Trim ∷ later)))
    ∙ sym (map-append (with_mapped_act f) stops (stitches ++ act.Trim ∷ later))

-- the runs over a moved drawing
module _ (f : Point → Point)
    (needles : (step : ℕ) (ps : List Point) → needle_points step (map f ps) ≡ map f (needle_points step ps)) where
  block_kept : (d : DrawingValue) (walk : List Pass) → block_of_passes (moved_drawing f d) walk ≡ block_of_passes d walk
  block_kept d [] = refl
  block_kept d (pass ∷ rest) = block_moved f d pass.line

  run_moved : (d : DrawingValue) (walk : List Pass) → run_of (moved_drawing f d) walk ≡ with_mapped_run f (run_of d walk)
  run_moved d walk = ap (λ (b : ℕ). make b (needles_of_walk (moved_drawing f d) walk)) (block_kept d walk)
      ∙ ap (make (block_of_passes d walk)) (walk_moved f needles d walk)

  pub runs_moved : (d : DrawingValue) (walks : List (List Pass))
      → map (run_of (moved_drawing f d)) walks ≡ map (with_mapped_run f) (map (run_of d) walks)
  runs_moved d [] = refl
  runs_moved d (walk ∷ rest) = ap (λ (r : Run). r ∷ map (run_of (moved_drawing f d)) rest) (run_moved d walk)
      ∙ ap (λ (rs : List Run). with_mapped_run f (run_of d walk) ∷ rs) (runs_moved d rest)
