-- Properties of the acts of a design that a format can write.
use Rattle.std.specs.Prelude.{◌≡◌, ℕ, ◌≤◌, List, Some, None, IsTrue}
use Rattle.std.specs.List.{list_all}
use Rattle.design_model.specs.declared.act.NumberedAct.{NumberedAct}
use Rattle.design_model.specs.declared.design.TheConstants.{MAX_COMMANDS}
use Rattle.design_model.specs.ActPositions.{is_act_in_range}
use Rattle.design_model.specs.Acts.{acts_of}
use Rattle.design_model.specs.Designs.{DesignValue, KeepsLimits}
use Rattle.format_traits.specs.declared.encoder_state.WriteLimits.{WriteLimits}
use Rattle.format_traits.specs.Refusals.{stops_of, first_refusal}
use Rattle.format_traits.specs.Rooms.{room_of}

-- Acts within a format's limits: each act is in range, their room is at most that of a design, and
-- their stops are at most the format's.
pub record IsWithinWriteLimits (write_limits : WriteLimits) (acts : List NumberedAct) : Type 0 where
  pub in_range : IsTrue (list_all (λ a. is_act_in_range a.act) acts)
  pub room : room_of write_limits.limit acts ≤ MAX_COMMANDS
  pub stops : (most : ℕ) → write_limits.stops ≡ Some most → stops_of acts ≤ most

-- Theorem: the acts of a design that the format does not refuse are within the format's limits.
abbrev pub AcceptedIsWithinLimits : Type 0
AcceptedIsWithinLimits = (write_limits : WriteLimits) (d : DesignValue) → KeepsLimits d
    → first_refusal write_limits (acts_of d) ≡ None
    → IsWithinWriteLimits write_limits (acts_of d)
