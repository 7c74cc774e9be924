-- Worked values of the acts.
use Rattle.std.proofs.Common.{◌≡◌, ℤ, pos, true, false, [], ◌∷◌, Some, None, refl}
use Rattle.design_model.proofs.Names.{Stitch, Jump, Point, acts_along, acts_without_numbers, numbered, numbered_act_list}
use Rattle.design_model.specs.declared.act.Act.TheVariants as act
use Rattle.design_model.specs.declared.command.Command.TheVariants.{Trim, Stop}
use Rattle.design_model.specs.ActScanners.{acts_after}

-- the point at that x on the axis
abbrev pub at : ℤ → Point
at x = record { x = x; y = pos 0 }

-- a jump before the first needle is no float, and a cut of a loose thread is no act
pub known_first : acts_along (Trim ∷ Jump (at (pos 9)) ∷ Stitch (at (pos 9)) ∷ [])
    ≡ numbered 3 (act.Needle (at (pos 9)) false) ∷ []
known_first = refl

-- a jump between two needles makes the second a float; after a trim it does not
pub known_floats :
    acts_without_numbers (acts_along (Stitch (at (pos 0)) ∷ Jump (at (pos 5)) ∷ Stitch (at (pos 5)) ∷ Trim
    ∷ Trim ∷ Jump (at (pos 9)) ∷ Stitch (at (pos 9)) ∷ []))
    ≡ act.Needle (at (pos 0)) false ∷ act.Needle (at (pos 5)) true ∷ act.Trim
    ∷ act.Needle (at (pos 9)) false ∷ []
known_floats = refl

-- a stop is an act of its own, and leaves the thread loose
pub known_stops : acts_along (Stitch (at (pos 1)) ∷ Trim ∷ Stop ∷ Trim ∷ Stop ∷ Stitch (at (pos 2)) ∷ [])
    ≡ numbered 1 (act.Needle (at (pos 1)) false) ∷ numbered 2 act.Trim ∷ numbered 3 act.Stop
    ∷ numbered 5 act.Stop ∷ numbered 6 (act.Needle (at (pos 2)) false) ∷ []
known_stops = refl

-- the needle after a float is none
pub known_acts_without_numbers :
    (acts_without_numbers (acts_along (Stitch (at (pos 1)) ∷ Jump (at (pos 2)) ∷ Stitch (at (pos 3)) ∷ Stitch (at (pos 4)) ∷ []))
    ≡ act.Needle (at (pos 1)) false ∷ act.Needle (at (pos 3)) true ∷ act.Needle (at (pos 4)) false ∷ [])
    -- A jump after a stop makes no float.
    × (acts_without_numbers (acts_along (Stitch (at (pos 1)) ∷ Stop ∷ Jump (at (pos 2)) ∷ Stitch (at (pos 3)) ∷ []))
    ≡ act.Needle (at (pos 1)) false ∷ act.Stop ∷ act.Needle (at (pos 3)) false ∷ [])
known_acts_without_numbers = (refl, refl)

-- an act is in a list of its own
pub known_numbered_act_list : (numbered_act_list 7 (Some act.Trim) ≡ record { number = 7; act = act.Trim } ∷ [])
    × (numbered_act_list 7 None ≡ [])
known_numbered_act_list = (refl, refl)

-- After four commands, a jump with the thread sewn makes the next stitch a float, with a loose thread it doesn't.
pub known_acts_after :
    (acts_after (record { number = 4; thread = record { loose = false; jumped = true } }) (Stitch (at (pos 3)) ∷ Trim ∷ Trim ∷ Stop ∷ [])
    ≡ numbered 5 (act.Needle (at (pos 3)) true) ∷ numbered 6 act.Trim ∷ numbered 8 act.Stop ∷ [])
    × (acts_after (record { number = 4; thread = record { loose = true; jumped = true } }) (Trim ∷ Stitch (at (pos 3)) ∷ [])
    ≡ numbered 6 (act.Needle (at (pos 3)) false) ∷ [])
known_acts_after = (refl, refl)
