-- Worked values of writing.
use Rattle.std.proofs.Common.{◌≡◌, ℕ, ℤ, pos, negsuc, List, [], ◌∷◌, ◌++◌, length, drop, replicate, Some, Ok, Err, refl, codes}
use Rattle.std.specs.Fmt.{digits}
use Rattle.dst_codec.proofs.Names.{concat, Command, Stitch, Jump, Stop, Point, acts_along, DesignValue, extents_of, extents_from_origin, dst_records_of, dst_writes, header_fields}
use Rattle.format_traits.specs.declared.fault.WriteFault.TheVariants as fault
use Rattle.dst_codec.specs.Samples.{square_design, square_commands}

abbrev pub point : ℤ → ℤ → Point
point x y = record { x = x; y = y }

-- a design without label and threads
abbrev pub sewn : List Command → DesignValue
sewn commands = record { label = []; threads = []; commands = commands }

abbrev square_records : List ℕ
square_records = 0x00 ∷ 0x00 ∷ 0x03 ∷ 0x00 ∷ 0x05 ∷ 0x03 ∷ 0x00 ∷ 0x50 ∷ 0x03 ∷ 0x00 ∷ 0x0A ∷ 0x03 ∷ 0x00 ∷ 0xA0 ∷ 0x03
    ∷ 0x82 ∷ 0x41 ∷ 0x83 ∷ 0x82 ∷ 0x82 ∷ 0x83 ∷ 0x82 ∷ 0x41 ∷ 0x83 ∷ []

pub known_square_records : concat (dst_records_of (acts_along square_commands)) ≡ square_records
known_square_records = refl

-- the fields of the square, which take 124 bytes
abbrev square_fields : List ℕ
square_fields = codes "LA:                " ++ 13 ∷ codes "ST:      9" ++ 13 ∷ codes "CO:  0" ++ 13
    ∷ codes "+X:   30" ++ 13 ∷ codes "-X:    0" ++ 13 ∷ codes "+Y:    0" ++ 13 ∷ codes "-Y:   30" ++ 13
    ∷ codes "AX:+    0" ++ 13 ∷ codes "AY:+    0" ++ 13 ∷ codes "MX:+    0" ++ 13 ∷ codes "MY:+    0" ++ 13
    ∷ codes "PD:******" ++ 13 ∷ []

pub known_square_fields : header_fields [] (acts_along square_commands) 9 ≡ square_fields
unfolding digits
known_square_fields = refl

pub known_fields_length : length (header_fields [] (acts_along square_commands) 9) ≡ 124
unfolding digits
known_fields_length = refl

-- the last needle of a design stands with its sign; its y points upwards
pub known_last : drop 74 (header_fields (codes "Rose") (acts_along (Stitch (point (negsuc 11) (pos 30)) ∷ [])) 2)
    ≡ codes "AX:-   12" ++ 13 ∷ codes "AY:-   30" ++ 13 ∷ codes "MX:+    0" ++ 13 ∷ codes "MY:+    0" ++ 13
    ∷ codes "PD:******" ++ 13 ∷ []
unfolding digits
known_last = refl

-- needles at (12, 34) and (-5, -6), two stops between them, and a jump before them that does not count
pub known_each_field : header_fields (codes "Rose") (acts_along (Jump (point (pos 900) (pos 800)) ∷ Stitch (point (pos 12) (pos 34))
    ∷ Stop ∷ Stop ∷ Stitch (point (negsuc 4) (negsuc 5)) ∷ [])) 1234567
    ≡ codes "LA:Rose            " ++ 13 ∷ codes "ST:1234567" ++ 13 ∷ codes "CO:  2" ++ 13
    ∷ codes "+X:   12" ++ 13 ∷ codes "-X:    5" ++ 13 ∷ codes "+Y:    6" ++ 13 ∷ codes "-Y:   34" ++ 13
    ∷ codes "AX:-    5" ++ 13 ∷ codes "AY:+    6" ++ 13 ∷ codes "MX:+    0" ++ 13 ∷ codes "MY:+    0" ++ 13
    ∷ codes "PD:******" ++ 13 ∷ []
unfolding digits
known_each_field = refl

-- a design without a needle reaches nowhere
pub known_bare_fields : drop 38 (header_fields [] (acts_along (Jump (point (pos 900) (pos 800)) ∷ Stop ∷ [])) 2)
    ≡ codes "+X:    0" ++ 13 ∷ codes "-X:    0" ++ 13 ∷ codes "+Y:    0" ++ 13 ∷ codes "-Y:    0" ++ 13
    ∷ codes "AX:+    0" ++ 13 ∷ codes "AY:+    0" ++ 13 ∷ codes "MX:+    0" ++ 13 ∷ codes "MY:+    0" ++ 13
    ∷ codes "PD:******" ++ 13 ∷ []
unfolding digits
known_bare_fields = refl

-- needles above the origin and to the left of it reach to no other side
pub known_one_side : extents_of (acts_along (Stitch (point (negsuc 11) (negsuc 33)) ∷ Stitch (point (negsuc 4) (negsuc 5)) ∷ []))
    ≡ record { right = 0; left = 12; up = 34; down = 0 }
known_one_side = refl

-- how far an extent reaches to each side of the origin; one to the right of it and below it reaches to two only
pub known_extents_from_origin : (extents_from_origin (Some (record { min = point (negsuc 4) (negsuc 5); max = point (pos 12) (pos 34) }))
    ≡ record { right = 12; left = 5; up = 6; down = 34 })
    × (extents_from_origin (Some (record { min = point (pos 3) (pos 4); max = point (pos 12) (pos 34) }))
    ≡ record { right = 12; left = 0; up = 0; down = 34 })
known_extents_from_origin = (refl, refl)

-- the whole file of the square has its header of 512 bytes, its records and the end
pub known_square_file : dst_writes square_design
    ≡ Ok (square_fields ++ 26 ∷ (replicate 387 32 ++ (square_records ++ 0x00 ∷ 0x00 ∷ 0xF3 ∷ [])))
unfolding digits
known_square_file = refl

-- a needle of a new colour block is reached by jumps, and a stop has its record
pub known_concat : (concat (dst_records_of (acts_along (Stitch (point (pos 0) (pos 0)) ∷ Stop
    ∷ Stitch (point (pos 300) (pos 0)) ∷ [])))
    ≡ 0x00 ∷ 0x00 ∷ 0x03 ∷ 0x00 ∷ 0x00 ∷ 0xC3 ∷ 0x09 ∷ 0x04 ∷ 0x87 ∷ 0x09 ∷ 0x04 ∷ 0x87 ∷ 0x09 ∷ 0x04 ∷ 0x87
    ∷ 0x00 ∷ 0x00 ∷ 0x03 ∷ [])
    -- a float of three hops is two jumps and a stitch; a float of no length is a jump without a move
    × (concat (dst_records_of (acts_along (Stitch (point (pos 0) (pos 0)) ∷ Jump (point (pos 300) (pos 0))
    ∷ Stitch (point (pos 300) (pos 0)) ∷ Jump (point (pos 300) (pos 0)) ∷ Stitch (point (pos 300) (pos 0)) ∷ [])))
    ≡ 0x00 ∷ 0x00 ∷ 0x03 ∷ 0x09 ∷ 0x04 ∷ 0x87 ∷ 0x09 ∷ 0x04 ∷ 0x87 ∷ 0x09 ∷ 0x04 ∷ 0x07
    ∷ 0x00 ∷ 0x00 ∷ 0x83 ∷ 0x00 ∷ 0x00 ∷ 0x03 ∷ [])
known_concat = (refl, refl)

-- a stitch of 122 is refused, and so is a float of 400
pub known_dst_writes : (dst_writes (sewn (Stitch (point (pos 0) (pos 0)) ∷ Stitch (point (pos 122) (pos 0)) ∷ []))
    ≡ Err (fault.StitchTooLong 2))
    × (dst_writes (sewn (Stitch (point (pos 0) (pos 0)) ∷ Jump (point (pos 400) (pos 0))
    ∷ Stitch (point (pos 400) (pos 0)) ∷ [])) ≡ Err (fault.FloatTooLong 3))
known_dst_writes = (refl, refl)
