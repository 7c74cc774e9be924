-- Plain designs: those that every format can write.
use Rattle.std.specs.Prelude.{ℕ, ◌≤◌, Bool, true, not, ◌&&◌, ◌||◌, List, [], ◌∷◌, IsTrue}
use Rattle.design_model.specs.declared.act.Act.{Act}
use Rattle.design_model.specs.declared.act.Act.TheVariants as act
use Rattle.design_model.specs.declared.act.NumberedAct.{NumberedAct}
use Rattle.design_model.specs.declared.design.TheConstants.{MAX_COMMANDS}
use Rattle.design_model.specs.declared.point.Point.{Point}
use Rattle.design_model.specs.Acts.{acts_of}
use Rattle.design_model.specs.Designs.{DesignValue}
use Rattle.design_model.specs.Points.{is_point_within, origin, move_between}
use Rattle.design_model.specs.ActPositions.{needle_position_after, leaves_thread_loose}
use Rattle.format_traits.specs.Refusals.{stops_of}
use Rattle.format_traits.specs.Rooms.{room_of}

-- True for an act that every format can write: a needle is no float, and lies within the limit of
-- the needle before unless the thread is loose.
abbrev pub is_plain_act : ℕ → Bool → Point → Act → Bool
is_plain_act limit loose place (act.Needle p float) =
    not float && (loose || is_point_within limit (move_between place p))
is_plain_act limit loose place act.Trim = true
is_plain_act limit loose place act.Stop = true

-- True where each of the acts is plain, from a position and a state of the thread on.
abbrev pub are_plain_from : ℕ → Bool → Point → List NumberedAct → Bool
are_plain_from limit loose place [] = true
are_plain_from limit loose place (a ∷ rest) = is_plain_act limit loose place a.act
    && are_plain_from limit (leaves_thread_loose a.act) (needle_position_after place a.act) rest

-- A plain design for a limit: no float, no stitch beyond the limit, at most 254 stops, and room for
-- its acts.
pub record IsPlain (limit : ℕ) (d : DesignValue) : Type 0 where
  pub needles : IsTrue (are_plain_from limit true origin (acts_of d))
  pub stops : stops_of (acts_of d) ≤ 254
  pub room : room_of limit (acts_of d) ≤ MAX_COMMANDS
