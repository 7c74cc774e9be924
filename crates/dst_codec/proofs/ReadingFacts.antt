-- Worked values of reading.
use Rattle.std.proofs.Common.{◌≡◌, ℕ, zero, suc, ℤ, pos, negsuc, true, false, List, [], ◌∷◌, ◌++◌, map, replicate, Ok, Err, Result, refl, codes}
use Rattle.dst_codec.proofs.Names.{Command, Stitch, Jump, Trim, Stop, Point, ReadFault, Loaded, dst_reads, dst_label_of, dst_moves}
use Rattle.format_traits.specs.declared.fault.ReadFault.TheVariants as fault

abbrev pub point : ℤ → ℤ → Point
point x y = record { x = x; y = y }

-- a file without a label, with these bytes after the header
abbrev pub file : List ℕ → List ℕ
file bytes = replicate 512 32 ++ bytes

-- what is loaded without a label
abbrev pub plain : List Command → Result Loaded ReadFault
plain commands = Ok (record {
  design = record { label = []; threads = []; commands = commands };
  ended = true;
})

-- three jumps in a run read as two jumps, a trim and a jump
pub known_dst_reads : (dst_reads (file (0 ∷ 0 ∷ 0x03 ∷ 0 ∷ 0 ∷ 0x83 ∷ 0 ∷ 0 ∷ 0x83 ∷ 0 ∷ 0 ∷ 0x83
    ∷ 0 ∷ 0 ∷ 0x03 ∷ 0 ∷ 0 ∷ 0xF3 ∷ []))
    ≡ plain (Stitch (point (pos 0) (pos 0)) ∷ Jump (point (pos 0) (pos 0)) ∷ Jump (point (pos 0) (pos 0))
    ∷ Trim ∷ Jump (point (pos 0) (pos 0)) ∷ Stitch (point (pos 0) (pos 0)) ∷ []))
    -- two jumps read as two jumps
    × (dst_reads (file (0 ∷ 0 ∷ 0x03 ∷ 0 ∷ 0 ∷ 0x83 ∷ 0 ∷ 0 ∷ 0x83 ∷ 0 ∷ 0 ∷ 0x03 ∷ 0 ∷ 0 ∷ 0xF3 ∷ []))
    ≡ plain (Stitch (point (pos 0) (pos 0)) ∷ Jump (point (pos 0) (pos 0)) ∷ Jump (point (pos 0) (pos 0))
    ∷ Stitch (point (pos 0) (pos 0)) ∷ []))
    -- a stop with a move is a jump besides, which no run counts; the fourth jump of a run is a jump
    × (dst_reads (file (0x01 ∷ 0 ∷ 0x83 ∷ 0 ∷ 0 ∷ 0xC3 ∷ 0x01 ∷ 0 ∷ 0xC3 ∷ 0x01 ∷ 0 ∷ 0x83 ∷ 0x01 ∷ 0 ∷ 0x83
    ∷ 0x01 ∷ 0 ∷ 0x83 ∷ 0x01 ∷ 0 ∷ 0x83 ∷ 0 ∷ 0 ∷ 0xF3 ∷ 1 ∷ 2 ∷ 3 ∷ 4 ∷ []))
    ≡ plain (Jump (point (pos 1) (pos 0)) ∷ Stop ∷ Stop ∷ Jump (point (pos 2) (pos 0))
    ∷ Jump (point (pos 3) (pos 0)) ∷ Jump (point (pos 4) (pos 0)) ∷ Trim ∷ Jump (point (pos 5) (pos 0))
    ∷ Jump (point (pos 6) (pos 0)) ∷ []))
    -- a stitch breaks a run of jumps
    × (dst_reads (file (0 ∷ 0 ∷ 0x83 ∷ 0 ∷ 0 ∷ 0x83 ∷ 0x01 ∷ 0 ∷ 0x03 ∷ 0 ∷ 0 ∷ 0x83 ∷ 0 ∷ 0 ∷ 0x83 ∷ 0 ∷ 0 ∷ 0xF3 ∷ []))
    ≡ plain (Jump (point (pos 0) (pos 0)) ∷ Jump (point (pos 0) (pos 0)) ∷ Stitch (point (pos 1) (pos 0))
    ∷ Jump (point (pos 1) (pos 0)) ∷ Jump (point (pos 1) (pos 0)) ∷ []))
known_dst_reads = (refl, refl, refl, refl)

-- what is loaded of a file without an end
abbrev unended : List Command → Result Loaded ReadFault
unended commands = Ok (record {
  design = record { label = []; threads = []; commands = commands };
  ended = false;
})

-- a file that is cut off in a record has the commands before, and has not ended
pub known_cut_off : dst_reads (file (0x00 ∷ 0x05 ∷ 0x03 ∷ 0x00 ∷ 0x05 ∷ [])) ≡ unended (Stitch (point (pos 30) (pos 0)) ∷ [])
known_cut_off = refl

-- nor has one that is cut off after a record, or after its header
pub known_no_end : map (λ bytes. dst_reads (file bytes)) ((0x00 ∷ 0x05 ∷ 0x03 ∷ []) ∷ [] ∷ [])
    ≡ unended (Stitch (point (pos 30) (pos 0)) ∷ []) ∷ unended [] ∷ []
known_no_end = refl

-- a sequin is refused at its record, and a short file at its length
pub known_sequin : (dst_reads (file (0 ∷ 0 ∷ 0x03 ∷ 0 ∷ 0 ∷ 0x43 ∷ [])) ≡ Err (fault.Sequin 515))
    × (dst_reads (replicate 511 32) ≡ Err (fault.Short 511))
known_sequin = (refl, refl)

-- n records of a stitch by 121 to the right
abbrev pub join : ℕ → List ℕ
join zero = []
join (suc n) = 0x05 ∷ 0x05 ∷ 0x07 ∷ join n

-- the needle of record 248 would be at 30008
pub known_range : dst_reads (file (join 248)) ≡ Err (fault.Range 1253)
known_range = refl

-- the moves before a refusal, and before the end
pub known_dst_moves : (dst_moves (file (0x01 ∷ 0 ∷ 0x03 ∷ 0 ∷ 0 ∷ 0x43 ∷ [])) ≡ point (pos 1) (pos 0) ∷ [])
    × (dst_moves (file (0x01 ∷ 0 ∷ 0x03 ∷ 0x02 ∷ 0 ∷ 0x83 ∷ 0 ∷ 0 ∷ 0xF3 ∷ 0x01 ∷ 0 ∷ 0x03 ∷ []))
    ≡ point (pos 1) (pos 0) ∷ point (negsuc 0) (pos 0) ∷ [])
known_dst_moves = (refl, refl)

-- a label ends before its spaces, and stands only after its name
pub known_label : (dst_label_of (codes "LA:Rose 1          " ++ 13 ∷ []) ≡ codes "Rose 1")
    × (map dst_label_of (codes "XX:Rose 1          " ∷ codes "LA;Rose 1          " ∷ codes "la:Rose 1          "
    ∷ codes " LA:Rose 1         " ∷ []) ≡ [] ∷ [] ∷ [] ∷ [] ∷ [])
known_label = (refl, refl)

-- it has sixteen places
pub known_long_label : dst_label_of (codes "LA:Roses of Damascus") ≡ codes "Roses of Damascu"
known_long_label = refl
