-- The acts of the commands that sew runs.
use Rattle.std.proofs.Common.{arith, ◌≡◌, ◌≢◌, ℕ, zero, suc, ◌+◌, ◌-◌, Bool, true, false, List, [], ◌∷◌, ◌++◌, map, replicate, All, ap, refl}
use Rattle.line_graph.proofs.Names.{nat_tests, All-head, All-tail, Act, Stitch, Stop, Point, acts_without_numbers, HasNeedle, Run, commands_after, acts_from, sewn_acts_after}
use Rattle.design_model.specs.declared.act.Act.TheVariants as act
use Rattle.design_model.specs.declared.command.Command.{Command}

-- with no jump so far the commands have these acts, whatever number they begin at
abbrev Come : Bool → List Command → List Act → Type 0
Come loose commands acts = (n : ℕ) → acts_without_numbers (acts_from n loose false commands) ≡ acts

-- stop commands are read as stops
stops_come : (k : ℕ) (rest : List Command) (acts : List Act) → Come true rest acts
    → Come true (replicate k Stop ++ rest) (replicate k act.Stop ++ acts)
stops_come zero rest acts come n = come n
stops_come (suc k) rest acts come n = ap (λ more. act.Stop ∷ more) (stops_come k rest acts come (n + 1))

-- stitch commands are read as needle acts, once the thread is held
stitches_come : (points : List Point) (rest : List Command) (acts : List Act) → Come false rest acts
    → Come false (map (λ p. Stitch p) points ++ rest) (map (λ p. act.Needle p false) points ++ acts)
stitches_come [] rest acts come n = come n
stitches_come (p ∷ points) rest acts come n = grind (arith, nat_tests, stitches_come points rest acts come (n + 1))

-- and the first of them holds it
some_come : (points : List Point) (rest : List Command) (acts : List Act) → points ≢ [] → Come false rest acts
    → Come true (map (λ p. Stitch p) points ++ rest) (map (λ p. act.Needle p false) points ++ acts)
some_come [] rest acts some come n = absurd (some refl)
some_come (p ∷ points) rest acts some come n = grind (arith, nat_tests, stitches_come points rest acts come (n + 1))

-- the commands that sew runs have the acts that sew them
pub runs_come : (block : ℕ) (runs : List Run) → All HasNeedle runs → Come true (commands_after block runs) (sewn_acts_after block runs)
runs_come block [] some = λ n. refl
runs_come block (run ∷ rest) some =
    stops_come (run.block - block) _ _
    (some_come run.needles _ _ (All-head HasNeedle run rest some)
    (λ n. ap (λ more. act.Trim ∷ more)
    (runs_come run.block rest (All-tail HasNeedle run rest some) (n + 1))))
