-- Worked values of refits.
use Rattle.std.proofs.Common.{◌≡◌, ℤ, pos, negsuc, true, false, [], ◌∷◌, refl}
use Rattle.step_splitter.proofs.Names.{Act, acts_along, origin, is_no_float, refitted_acts, refitted_commands, is_near_act}
use Rattle.design_model.specs.declared.act.Act.TheVariants as act
use Rattle.design_model.specs.declared.command.Command.TheVariants as command
use Rattle.step_splitter.specs.declared.refitting.RefitMode.TheVariants as mode
use Rattle.step_splitter.proofs.SplitFacts.{at}

-- a needle that is no float, and one that is
abbrev pub needle : ℤ → ℤ → Act
needle x y = act.Needle (at x y) false

abbrev pub float : ℤ → ℤ → Act
float x y = act.Needle (at x y) true

-- a stitch of 122 is one too far for a limit of 121
pub known_refitted_acts : (refitted_acts mode.Split 121 (needle (pos 0) (pos 0) ∷ needle (pos 122) (pos 0) ∷ [])
    ≡ needle (pos 0) (pos 0) ∷ needle (pos 61) (pos 0) ∷ needle (pos 122) (pos 0) ∷ [])
    -- one of 121 is not
    × (refitted_acts mode.Split 121 (needle (pos 0) (pos 0) ∷ needle (pos 0) (negsuc 120) ∷ [])
    ≡ needle (pos 0) (pos 0) ∷ needle (pos 0) (negsuc 120) ∷ [])
    -- the move (-5, 128) at a limit of 127 is split at (-3, 64)
    × (refitted_acts mode.Split 127 (needle (pos 0) (pos 0) ∷ needle (negsuc 4) (pos 128) ∷ [])
    ≡ needle (pos 0) (pos 0) ∷ needle (negsuc 2) (pos 64) ∷ needle (negsuc 4) (pos 128) ∷ [])
    -- a move begins where the needle before went down: from (100, 0) to (110, 0) are 10, and on to (110, 13) are 13
    × (refitted_acts mode.Split 10 (needle (pos 100) (pos 0) ∷ needle (pos 110) (pos 0) ∷ needle (pos 110) (pos 13) ∷ [])
    ≡ needle (pos 100) (pos 0) ∷ needle (pos 110) (pos 0) ∷ needle (pos 110) (pos 6) ∷ needle (pos 110) (pos 13) ∷ [])
    -- neither a loose needle nor a float is split, however far it lies
    × (refitted_acts mode.Split 10 (needle (pos 99) (pos 0) ∷ act.Stop ∷ needle (pos 0) (pos 0)
    ∷ float (pos 99) (pos 0) ∷ [])
    ≡ needle (pos 99) (pos 0) ∷ act.Stop ∷ needle (pos 0) (pos 0) ∷ float (pos 99) (pos 0) ∷ [])
    -- a float of 400 is cut, and a far needle that is no float stays
    × (refitted_acts mode.Cut 121 (needle (pos 0) (pos 0) ∷ float (pos 400) (pos 0)
    ∷ needle (pos 900) (pos 0) ∷ [])
    ≡ needle (pos 0) (pos 0) ∷ act.Trim ∷ needle (pos 400) (pos 0) ∷ needle (pos 900) (pos 0) ∷ [])
known_refitted_acts = (refl, refl, refl, refl, refl, refl)

-- the jumps on the way to a float become one, and those to a loose needle none; a trim of a loose thread goes
pub known_commands :
    refitted_commands mode.Split 121 (acts_along (command.Trim ∷ command.Jump (at (pos 5) (pos 0))
    ∷ command.Stitch (at (pos 0) (pos 0)) ∷ command.Jump (at (pos 5) (pos 0))
    ∷ command.Jump (at (pos 9) (pos 0)) ∷ command.Stitch (at (pos 8) (pos 0)) ∷ command.Trim
    ∷ command.Stop ∷ []))
    ≡ command.Stitch (at (pos 0) (pos 0)) ∷ command.Jump (at (pos 8) (pos 0))
    ∷ command.Stitch (at (pos 8) (pos 0)) ∷ command.Trim ∷ command.Stop ∷ []
known_commands = refl

-- a needle is near within the limit, and anywhere if it is loose or a float
pub known_is_near_act : (is_near_act 121 false origin (needle (pos 122) (pos 0)) ≡ false)
    × (is_near_act 121 false origin (needle (pos 121) (negsuc 120)) ≡ true)
    × (is_near_act 121 true origin (needle (pos 122) (pos 0)) ≡ true)
    × (is_near_act 121 false origin (float (pos 122) (pos 0)) ≡ true)
known_is_near_act = (refl, refl, refl, refl)

-- a trim and a stop move no needle
pub known_other_near : (is_near_act 1 false origin act.Trim ≡ true) × (is_near_act 1 false origin act.Stop ≡ true)
known_other_near = (refl, refl)

-- of all acts a needle alone may be a float
pub known_no_floats : (is_no_float (float (pos 1) (pos 0)) ≡ false) × (is_no_float (needle (pos 1) (pos 0)) ≡ true)
    × (is_no_float act.Trim ≡ true) × (is_no_float act.Stop ≡ true)
known_no_floats = (refl, refl, refl, refl)
