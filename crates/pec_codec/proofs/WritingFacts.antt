-- Worked values of what designs are written as.
use Rattle.std.proofs.Common.{◌≡◌, ◌+◌, ◌*◌, ℤ, pos, negsuc, List, [], ◌∷◌, ◌++◌, length, map, replicate, codes, Err, refl}
use Rattle.pec_codec.proofs.Names.{Command, Trim, Point, DesignValue, extent_of, distance_field, pec_label_of, labels_of, size_fields, threads_in, pec_block_of, pec_body_of, thumbnail_distance, thumbnails_of, pec_block_writes}
use Rattle.design_model.specs.declared.command.Command.TheVariants.{Jump, Stitch, Stop}
use Rattle.format_traits.specs.declared.fault.WriteFault.TheVariants as fault

abbrev pub point : ℤ → ℤ → Point
point x y = record { x = x; y = y }

-- a design without label and threads
abbrev pub sewn : List Command → DesignValue
sewn commands = record { label = []; threads = []; commands = commands }

-- a square of 30, sewn once and cut
abbrev pub square : DesignValue
square = sewn (Stitch (point (pos 0) (pos 0)) ∷ Stitch (point (pos 30) (pos 0)) ∷ Stitch (point (pos 30) (pos 30))
    ∷ Stitch (point (pos 0) (pos 30)) ∷ Stitch (point (pos 0) (pos 0)) ∷ Trim ∷ [])

-- three blocks, with a stitch that needs two bytes
abbrev pub blocks : DesignValue
blocks = sewn (Stitch (point (pos 0) (pos 0)) ∷ Stitch (point (pos 62) (negsuc 62)) ∷ Stitch (point (pos 125) (negsuc 62))
    ∷ Stop ∷ Stitch (point (pos 125) (negsuc 62)) ∷ Stop ∷ Stitch (point (pos 125) (negsuc 62)) ∷ [])

pub known_square_body : (pec_body_of square ≡ 0x00 ∷ 0x00 ∷ 0x1E ∷ 0x00 ∷ 0x00 ∷ 0x1E ∷ 0x62 ∷ 0x00 ∷ 0x00 ∷ 0x62
    ∷ 0xA0 ∷ 0x00 ∷ 0xA0 ∷ 0x00 ∷ 0xFF ∷ [])
    × (distance_field (thumbnail_distance (pec_body_of square))
    ≡ 0x00 ∷ 0x00 ∷ 0x1F ∷ 0x00 ∷ 0x00 ∷ 0x31 ∷ 0xFF ∷ 0xF0 ∷ [])
known_square_body = (refl, refl)

pub known_size_fields : (size_fields (extent_of square) ≡ 0x1E ∷ 0x00 ∷ 0x1E ∷ 0x00 ∷ 0xE0 ∷ 0x01 ∷ 0xB0 ∷ 0x01 ∷ [])
    × (size_fields (extent_of (sewn [])) ≡ 0x00 ∷ 0x00 ∷ 0x00 ∷ 0x00 ∷ 0xE0 ∷ 0x01 ∷ 0xB0 ∷ 0x01 ∷ [])
known_size_fields = (refl, refl)

pub known_blocks_body : (pec_body_of blocks ≡ 0x00 ∷ 0x00 ∷ 0x3E ∷ 0x41 ∷ 0x80 ∷ 0x3F ∷ 0x80 ∷ 0x00 ∷ 0xFE ∷ 0xB0 ∷ 0x02
    ∷ 0x00 ∷ 0x00 ∷ 0xFE ∷ 0xB0 ∷ 0x01 ∷ 0x00 ∷ 0x00 ∷ 0xFF ∷ [])
    × (thumbnail_distance (pec_body_of blocks) ≡ 0x23)
known_blocks_body = (refl, refl)

-- from -5 to 7 the width is 12, and from -6 to 300 the height is 306
pub known_other_sizes : size_fields (extent_of (sewn (Stitch (point (negsuc 4) (pos 300)) ∷ Stitch (point (pos 7) (negsuc 5)) ∷ [])))
    ≡ 0x0C ∷ 0x00 ∷ 0x32 ∷ 0x01 ∷ 0xE0 ∷ 0x01 ∷ 0xB0 ∷ 0x01 ∷ []
known_other_sizes = refl

-- the distance has its low byte first
pub known_long_distance : distance_field 197121 ≡ 0x00 ∷ 0x00 ∷ 0x01 ∷ 0x02 ∷ 0x03 ∷ 0x31 ∷ 0xFF ∷ 0xF0 ∷ []
known_long_distance = refl

-- the number of blocks less one, and the thread of each
pub known_labels : labels_of (record { label = codes "Rose"; threads = 22 ∷ 5 ∷ []; commands = [] }) 2
    ≡ codes "LA:Rose            " ++ 13 ∷ codes "            " ++ 0xFF ∷ 0x00 ∷ 0x06 ∷ 0x26 ∷ codes "            "
    ++ 2 ∷ 22 ∷ 5 ∷ 3 ∷ []
known_labels = refl

-- 255 stands for no thread, another number for one thread more
pub known_threads_in : (threads_in (codes "                                                " ++ 255 ∷ 7 ∷ 8 ∷ []) ≡ [])
    × (threads_in (codes "                                                " ++ 1 ∷ 7 ∷ 8 ∷ 9 ∷ []) ≡ 7 ∷ 8 ∷ [])
known_threads_in = (refl, refl)

pub known_label : (pec_label_of (codes "LA:Rose " ++ 1 ∷ codes "           ") ≡ codes "Rose ?")
    × (map pec_label_of (codes "LB:Rose            " ∷ codes "LA;Rose            " ∷ codes "la:Rose            "
    ∷ codes " LA:Rose           " ∷ []) ≡ [] ∷ [] ∷ [] ∷ [] ∷ [])
known_label = (refl, refl)

-- it has sixteen places
pub known_long_label : pec_label_of (codes "LA:Roses of Damascus") ≡ codes "Roses of Damascu"
known_long_label = refl

-- blank thumbnails of the whole and of two blocks
pub known_thumbnails : thumbnails_of 1 ≡ replicate 684 0
known_thumbnails = refl

-- a whole block: its header, its records and its thumbnails
pub known_length : (length (pec_block_of blocks) ≡ 528 + 19 + 4 * 228)
    × (pec_block_of square ≡ labels_of square 0 ++ (replicate 462 32
    ++ (distance_field 31 ++ (size_fields (extent_of square) ++ (pec_body_of square ++ replicate 456 0)))))
known_length = (refl, refl)

-- a stitch of 2048 is refused
pub known_long_stitch : pec_block_writes (sewn (Stitch (point (pos 0) (pos 0)) ∷ Stitch (point (pos 2048) (pos 0)) ∷ []))
    ≡ Err (fault.StitchTooLong 2)
known_long_stitch = refl

-- a float of 4000 is two jumps and a stitch without a move
pub known_float : pec_body_of (sewn (Stitch (point (pos 0) (pos 0)) ∷ Jump (point (pos 0) (pos 4000))
    ∷ Stitch (point (pos 0) (pos 4000)) ∷ []))
    ≡ 0x00 ∷ 0x00 ∷ 0x90 ∷ 0x00 ∷ 0x97 ∷ 0xD0 ∷ 0x90 ∷ 0x00 ∷ 0x97 ∷ 0xD0 ∷ 0x00 ∷ 0x00 ∷ 0xFF ∷ []
known_float = refl
