-- Bean stitches: each stitch is sewn there and back several times before the next one.
use Rattle.std.specs.Prelude.{◌≡◌, ◌↔◌, ℕ, zero, suc, Bool, true, false, List, [], ◌∷◌, ◌++◌, Option, Some, None, Contains}
use Rattle.std.specs.List.{filter_map}
use Rattle.design_model.specs.declared.act.Act.{Act}
use Rattle.design_model.specs.declared.act.Act.TheVariants as act
use Rattle.design_model.specs.declared.point.Point.{Point}
use Rattle.design_model.specs.ActKinds.{act_point}
use Rattle.design_rewrites.specs.OrderedActs.{are_in_order}
use Rattle.step_splitter.specs.Refits.{needles_at}

-- The needle points of a stitch that is sewn there and back a number of times.
abbrev pub there_and_back : ℕ → (from to : Point) → List Point
there_and_back zero from to = []
there_and_back (suc times) from to = to ∷ from ∷ there_and_back times from to

-- The needle points before a needle act: there and back along its stitch. A float and the first
-- needle of a thread have none.
abbrev pub bean_points : ℕ → Option Point → Point → Bool → List Point
bean_points times None p float = []
bean_points times (Some before) p true = []
bean_points times (Some before) p false = there_and_back times before p

-- The acts with each stitch sewn there and back a number of times, and once more there, given the
-- needle before them in their thread, if there is one.
abbrev pub beaned_from : ℕ → Option Point → List Act → List Act
beaned_from times before [] = []
beaned_from times before (act.Needle p float ∷ rest) =
    needles_at (bean_points times before p float)
    ++ (act.Needle p float ∷ beaned_from times (Some p) rest)
beaned_from times before (act.Trim ∷ rest) = act.Trim ∷ beaned_from times None rest
beaned_from times before (act.Stop ∷ rest) = act.Stop ∷ beaned_from times None rest

-- The acts of a design with each stitch sewn there and back a number of times, and once more there.
abbrev pub beaned_acts : ℕ → List Act → List Act
beaned_acts times acts = beaned_from times None acts

-- The needle goes through the same points of the cloth.
abbrev pub BeanKeepsPoints : Type 0
BeanKeepsPoints = (times : ℕ) (acts : List Act) (p : Point)
    → Contains (filter_map act_point (beaned_acts times acts)) p
    ↔ Contains (filter_map act_point acts) p

-- Acts in order stay in order when their stitches are sewn there and back.
abbrev pub BeanKeepsOrder : Type 0
BeanKeepsOrder = (times : ℕ) (acts : List Act) → are_in_order true acts ≡ true
    → are_in_order true (beaned_acts times acts) ≡ true
