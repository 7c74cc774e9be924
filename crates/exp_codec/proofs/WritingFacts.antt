-- Worked values of writing.
use Rattle.std.proofs.Common.{◌≡◌, ℤ, pos, negsuc, List, [], ◌∷◌, true, codes, None, Ok, Err, refl}
use Rattle.exp_codec.proofs.Names.{Command, Stitch, Jump, Trim, Stop, Point, DesignValue, origin, LIMIT, exp_meaning, exp_write_limits, numbered, refusal_of_act, exp_writes}
use Rattle.design_model.specs.declared.act.Act.TheVariants as act
use Rattle.format_traits.specs.declared.fault.WriteFault.TheVariants as fault

abbrev pub point : ℤ → ℤ → Point
point x y = record { x = x; y = y }

-- a design without label and threads
abbrev pub sewn : List Command → DesignValue
sewn commands = record { label = []; threads = []; commands = commands }

pub known_ending : exp_meaning.ending ≡ codes "exp"
known_ending = refl

-- how far a unit that is written moves on each axis, in tenths of a millimetre
pub known_limit : LIMIT ≡ 127
known_limit = refl

-- a jump downwards and to the left, as a stitch: y is written upwards
pub known_exp_writes : (exp_writes (sewn (Stitch (point (negsuc 99) (pos 100)) ∷ []))
    ≡ Ok (0x80 ∷ 0x04 ∷ 0x9C ∷ 0x9C ∷ 0x00 ∷ 0x00 ∷ []))
    -- the greatest move in both directions
    × (exp_writes (sewn (Stitch (point (pos 0) (pos 0)) ∷ Stitch (point (pos 127) (pos 127)) ∷ []))
    ≡ Ok (0x00 ∷ 0x00 ∷ 0x7F ∷ 0x81 ∷ []))
    -- a square of 30 and a trim
    × (exp_writes (sewn (Stitch (point (pos 0) (pos 0)) ∷ Stitch (point (pos 30) (pos 0))
    ∷ Stitch (point (pos 30) (pos 30)) ∷ Stitch (point (pos 0) (pos 30)) ∷ Stitch (point (pos 0) (pos 0)) ∷ Trim ∷ []))
    ≡ Ok (0x00 ∷ 0x00 ∷ 0x1E ∷ 0x00 ∷ 0x00 ∷ 0xE2 ∷ 0xE2 ∷ 0x00 ∷ 0x00 ∷ 0x1E ∷ 0x80 ∷ 0x80 ∷ 0x07 ∷ 0x00 ∷ []))
    -- the greatest move to the left
    × (exp_writes (sewn (Stitch (point (pos 0) (pos 0)) ∷ Stitch (point (negsuc 126) (pos 0)) ∷ []))
    ≡ Ok (0x00 ∷ 0x00 ∷ 0x81 ∷ 0x00 ∷ []))
    -- a float of 400 takes four jumps and a stitch without a move, and a stop has its unit
    × (exp_writes (sewn (Stitch (point (pos 0) (pos 0)) ∷ Jump (point (pos 400) (pos 0))
    ∷ Stitch (point (pos 400) (pos 0)) ∷ Stop ∷ []))
    ≡ Ok (0x00 ∷ 0x00 ∷ 0x80 ∷ 0x04 ∷ 0x64 ∷ 0x00 ∷ 0x80 ∷ 0x04 ∷ 0x64 ∷ 0x00 ∷ 0x80 ∷ 0x04 ∷ 0x64 ∷ 0x00
    ∷ 0x80 ∷ 0x04 ∷ 0x64 ∷ 0x00 ∷ 0x00 ∷ 0x00 ∷ 0x80 ∷ 0x01 ∷ 0x00 ∷ 0x00 ∷ []))
    -- a stitch of 128 is refused
    × (exp_writes (sewn (Stitch (point (pos 0) (pos 0)) ∷ Stitch (point (negsuc 4) (pos 128)) ∷ []))
    ≡ Err (fault.StitchTooLong 2))
known_exp_writes = (refl, refl, refl, refl, refl, refl)

-- a design may have as many stops as commands
pub known_stops : refusal_of_act exp_write_limits (record { loose = true; place = origin; stops = 999999; room = 999999 })
    (numbered 1000000 act.Stop) ≡ None
known_stops = refl
