-- Worked values of reading.
use Rattle.std.proofs.Common.{◌≡◌, ℤ, pos, negsuc, Bool, true, false, List, [], ◌∷◌, map, Ok, Err, Result, refl}
use Rattle.exp_codec.proofs.Names.{Command, Stitch, Jump, Trim, Stop, Point, Loaded, exp_reads, exp_moves, exp_shown}
use Rattle.format_traits.specs.declared.fault.ReadFault.{ReadFault}
use Rattle.format_traits.specs.declared.fault.ReadFault.TheVariants as fault

abbrev pub point : ℤ → ℤ → Point
point x y = record { x = x; y = y }

-- what is loaded, and whether the file has ended
abbrev pub loaded : List Command → Bool → Result Loaded ReadFault
loaded commands ended = Ok (record {
  design = record { label = []; threads = []; commands = commands };
  ended = ended;
})

-- a stitch of 122 to the right
pub known_exp_reads : (exp_reads (0x00 ∷ 0x00 ∷ 0x7A ∷ 0x00 ∷ [])
    ≡ loaded (Stitch (point (pos 0) (pos 0)) ∷ Stitch (point (pos 122) (pos 0)) ∷ []) true)
    -- -128 turned downwards is 128
    × (exp_reads (0x00 ∷ 0x00 ∷ 0xFB ∷ 0x80 ∷ [])
    ≡ loaded (Stitch (point (pos 0) (pos 0)) ∷ Stitch (point (negsuc 4) (pos 128)) ∷ []) true)
    -- a stop without a move and one with a move, a stitch of four bytes, a jump, and a trim that does not move
    × (exp_reads (0x80 ∷ 0x01 ∷ 0x00 ∷ 0x00 ∷ 0x80 ∷ 0x01 ∷ 0x01 ∷ 0x02 ∷ 0x80 ∷ 0x02 ∷ 0x01 ∷ 0x00
    ∷ 0x80 ∷ 0x04 ∷ 0x00 ∷ 0xFF ∷ 0x80 ∷ 0x80 ∷ 0x07 ∷ 0x07 ∷ 0x01 ∷ 0x00 ∷ [])
    ≡ loaded (Stop ∷ Stop ∷ Jump (point (pos 1) (negsuc 1)) ∷ Stitch (point (pos 2) (negsuc 1))
    ∷ Jump (point (pos 2) (negsuc 0)) ∷ Trim ∷ Stitch (point (pos 3) (negsuc 0)) ∷ []) true)
    -- an uncut jump of 400
    × (exp_reads (0x00 ∷ 0x00 ∷ 0x80 ∷ 0x04 ∷ 0x64 ∷ 0x00 ∷ 0x80 ∷ 0x04 ∷ 0x64 ∷ 0x00 ∷ 0x80 ∷ 0x04 ∷ 0x64 ∷ 0x00
    ∷ 0x80 ∷ 0x04 ∷ 0x64 ∷ 0x00 ∷ 0x00 ∷ 0x00 ∷ [])
    ≡ loaded (Stitch (point (pos 0) (pos 0)) ∷ Jump (point (pos 100) (pos 0)) ∷ Jump (point (pos 200) (pos 0))
    ∷ Jump (point (pos 300) (pos 0)) ∷ Jump (point (pos 400) (pos 0)) ∷ Stitch (point (pos 400) (pos 0)) ∷ []) true)
    -- an incomplete unit is ignored, whatever its control byte, and then the file has not ended
    × (exp_reads (0x01 ∷ 0x00 ∷ 0x02 ∷ []) ≡ loaded (Stitch (point (pos 1) (pos 0)) ∷ []) false)
    × (exp_reads (0x01 ∷ 0x00 ∷ 0x80 ∷ 0x03 ∷ 0x00 ∷ []) ≡ loaded (Stitch (point (pos 1) (pos 0)) ∷ []) false)
known_exp_reads = (refl, refl, refl, refl, refl, refl)

-- the first byte of a unit of two or of four alone
pub known_begun : map exp_reads ((0x01 ∷ []) ∷ (0x80 ∷ 0x01 ∷ []) ∷ []) ≡ loaded [] false ∷ loaded [] false ∷ []
known_begun = refl

-- any other control byte is refused at its unit, with the commands and the moves before it
pub known_control : (exp_reads (0x01 ∷ 0x00 ∷ 0x80 ∷ 0x03 ∷ 0x00 ∷ 0x00 ∷ []) ≡ Err (fault.Control 2))
    × (exp_reads (0x80 ∷ 0x80 ∷ 0x07 ∷ 0x00 ∷ 0x80 ∷ 0x03 ∷ 0x00 ∷ 0x00 ∷ []) ≡ Err (fault.Control 4))
known_control = (refl, refl)

pub known_shown : (exp_shown (0x01 ∷ 0x00 ∷ 0x80 ∷ 0x03 ∷ 0x00 ∷ 0x00 ∷ []) ≡ Stitch (point (pos 1) (pos 0)) ∷ [])
    × (exp_moves (0x01 ∷ 0x00 ∷ 0x80 ∷ 0x80 ∷ 0x07 ∷ 0x00 ∷ 0x80 ∷ 0x04 ∷ 0xFF ∷ 0x01 ∷ 0x80 ∷ 0x03 ∷ 0x00 ∷ 0x00 ∷ [])
    ≡ point (pos 1) (pos 0) ∷ point (negsuc 0) (negsuc 0) ∷ [])
known_shown = (refl, refl)

-- a file without bytes has ended
pub known_empty : exp_reads [] ≡ loaded [] true
known_empty = refl
