-- Acts in an order that a design can have: a trim and a float occur only where the thread is not
-- loose.
use Rattle.std.specs.Prelude.{◌≡◌, Bool, true, false, not, ◌&&◌, ◌||◌, List, [], ◌∷◌}
use Rattle.design_model.specs.declared.act.Act.{Act}
use Rattle.design_model.specs.declared.act.Act.TheVariants as act
use Rattle.design_model.specs.ActPositions.{leaves_thread_loose}
use Rattle.design_model.specs.Acts.{acts_of, acts_without_numbers}
use Rattle.design_model.specs.Designs.{DesignValue}
use Rattle.design_rewrites.specs.Rewrites.{design_with_acts}

-- The test whether an act can occur where the thread is loose: no float and no trim can.
abbrev pub can_follow_loose_thread : Act → Bool
can_follow_loose_thread (act.Needle p float) = not float
can_follow_loose_thread act.Trim = false
can_follow_loose_thread act.Stop = true

-- The test whether acts are in order, given whether the thread is loose before them.
abbrev pub are_in_order : Bool → List Act → Bool
are_in_order loose [] = true
are_in_order loose (a ∷ rest) =
    (not loose || can_follow_loose_thread a) && are_in_order (leaves_thread_loose a) rest

-- The acts of a design are in order.
abbrev pub DesignActsAreInOrder : Type 0
DesignActsAreInOrder = (d : DesignValue)
    → are_in_order true (acts_without_numbers (acts_of d)) ≡ true

-- The commands of acts in order have these acts.
abbrev pub ActsOfCommandsStay : Type 0
ActsOfCommandsStay = (d : DesignValue) (acts : List Act) → are_in_order true acts ≡ true
    → acts_without_numbers (acts_of (design_with_acts d acts)) ≡ acts
