-- The room of acts: the largest number of commands that the written acts may read as.
use Rattle.std.specs.Prelude.{ℕ, ◌+◌, max, Bool, true, false, List, [], ◌∷◌, nat_le, if◌then◌else◌}
use Rattle.design_model.specs.declared.act.Act.{Act}
use Rattle.design_model.specs.declared.act.Act.TheVariants.{Needle, Trim, Stop}
use Rattle.design_model.specs.declared.act.NumberedAct.{NumberedAct}
use Rattle.design_model.specs.declared.point.Point.{Point}
use Rattle.design_model.specs.Points.{origin, move_between}
use Rattle.design_model.specs.ActPositions.{needle_position_after, leaves_thread_loose}
use Rattle.format_traits.specs.MoveHops.{hops_of}

-- The room of a loose needle of n jumps: the jumps and a stitch. The third of three jumps may read
-- as a trim too.
abbrev pub room_of_loose : ℕ → ℕ
room_of_loose jumps = if nat_le jumps 2 then jumps + 1 else jumps + 2

-- The room of a needle by its move: of a loose one, of a float, of any other.
abbrev pub room_of_needle : ℕ → Bool → Bool → Point → ℕ
room_of_needle limit true float m = room_of_loose (hops_of limit m)
room_of_needle limit false true m = max 1 (hops_of limit m) + 1
room_of_needle limit false false m = 1

-- The room of an act at a position, by whether the thread is loose.
abbrev pub room_of_act : ℕ → Bool → Point → Act → ℕ
room_of_act limit loose place (Needle p float) = room_of_needle limit loose float
    (move_between place p)
room_of_act limit loose place Trim = 4
room_of_act limit loose place Stop = 1

-- The sum of the rooms of acts, from a position and a state of the thread on.
abbrev pub room_from : ℕ → Bool → Point → List NumberedAct → ℕ
room_from limit loose place [] = 0
room_from limit loose place (a ∷ rest) = room_of_act limit loose place a.act
    + room_from limit (leaves_thread_loose a.act) (needle_position_after place a.act) rest

-- The room of the acts of a design.
abbrev pub room_of : ℕ → List NumberedAct → ℕ
room_of limit acts = room_from limit true origin acts
