-- Each bit of a record alone, read and written: what it moves, by the table of the format.
use Rattle.std.proofs.Common.{◌≡◌, ℕ, ℤ, pos, negsuc, List, [], ◌∷◌, map, arith, refl}
use Rattle.dst_codec.proofs.Names.{Point, dst_move_in, kind_of, IsCanonicalByte, IsCanonicalThird, dst_stitch_record}
use Rattle.dst_codec.specs.declared.record_kind.RecordKind.TheVariants as kind

-- a move along one axis
abbrev across : ℤ → Point
across x = record { x = x; y = pos 0 }

abbrev along : ℤ → Point
along y = record { x = pos 0; y = y }

-- the moves of each part
abbrev forth : List ℤ
forth = pos 1 ∷ pos 3 ∷ pos 9 ∷ pos 27 ∷ pos 81 ∷ []

abbrev back : List ℤ
back = negsuc 0 ∷ negsuc 2 ∷ negsuc 8 ∷ negsuc 26 ∷ negsuc 80 ∷ []

-- the records of 1, 3, 9, 27 and 81 to the right
abbrev right : List (List ℕ)
right = (0x01 ∷ 0x00 ∷ 0x03 ∷ []) ∷ (0x00 ∷ 0x01 ∷ 0x03 ∷ []) ∷ (0x04 ∷ 0x00 ∷ 0x03 ∷ [])
    ∷ (0x00 ∷ 0x04 ∷ 0x03 ∷ []) ∷ (0x00 ∷ 0x00 ∷ 0x07 ∷ []) ∷ []

pub known_right_read : (map dst_move_in right ≡ map across forth)
    × (map (λ z. dst_stitch_record (across z)) forth ≡ right)
known_right_read = (refl, refl)

-- the records of 1, 3, 9, 27 and 81 to the left
abbrev left : List (List ℕ)
left = (0x02 ∷ 0x00 ∷ 0x03 ∷ []) ∷ (0x00 ∷ 0x02 ∷ 0x03 ∷ []) ∷ (0x08 ∷ 0x00 ∷ 0x03 ∷ [])
    ∷ (0x00 ∷ 0x08 ∷ 0x03 ∷ []) ∷ (0x00 ∷ 0x00 ∷ 0x0B ∷ []) ∷ []

pub known_left_read : (map dst_move_in left ≡ map across back)
    × (map (λ z. dst_stitch_record (across z)) back ≡ left)
known_left_read = (refl, refl)

-- the records of 1, 3, 9, 27 and 81 downwards, which a file calls minus
abbrev down : List (List ℕ)
down = (0x40 ∷ 0x00 ∷ 0x03 ∷ []) ∷ (0x00 ∷ 0x40 ∷ 0x03 ∷ []) ∷ (0x10 ∷ 0x00 ∷ 0x03 ∷ [])
    ∷ (0x00 ∷ 0x10 ∷ 0x03 ∷ []) ∷ (0x00 ∷ 0x00 ∷ 0x13 ∷ []) ∷ []

pub known_down_read : (map dst_move_in down ≡ map along forth)
    × (map (λ z. dst_stitch_record (along z)) forth ≡ down)
known_down_read = (refl, refl)

-- the records of 1, 3, 9, 27 and 81 upwards
abbrev up : List (List ℕ)
up = (0x80 ∷ 0x00 ∷ 0x03 ∷ []) ∷ (0x00 ∷ 0x80 ∷ 0x03 ∷ []) ∷ (0x20 ∷ 0x00 ∷ 0x03 ∷ [])
    ∷ (0x00 ∷ 0x20 ∷ 0x03 ∷ []) ∷ (0x00 ∷ 0x00 ∷ 0x23 ∷ []) ∷ []

pub known_up_read : (map dst_move_in up ≡ map along back)
    × (map (λ z. dst_stitch_record (along z)) back ≡ up)
    -- the two low bits of the third byte and its flags move nothing
    × (map dst_move_in ((0 ∷ 0 ∷ 0x03 ∷ []) ∷ (0 ∷ 0 ∷ 0xC3 ∷ []) ∷ []) ≡ across (pos 0) ∷ along (pos 0) ∷ [])
    -- with both low bits the end has all of the other four high bits, a stop both flags, and a sequin and a jump one
    × (map kind_of (0xF3 ∷ 0xF7 ∷ 0xFB ∷ 0xFF ∷ []) ≡ kind.End ∷ kind.End ∷ kind.End ∷ kind.End ∷ [])
    × (map kind_of (0xC3 ∷ 0xD3 ∷ 0xE3 ∷ 0xEF ∷ []) ≡ kind.Stop ∷ kind.Stop ∷ kind.Stop ∷ kind.Stop ∷ [])
    × (map kind_of (0x83 ∷ 0x93 ∷ 0xB3 ∷ 0xBF ∷ []) ≡ kind.Jump ∷ kind.Jump ∷ kind.Jump ∷ kind.Jump ∷ [])
    × (map kind_of (0x43 ∷ 0x53 ∷ 0x73 ∷ 0x7F ∷ []) ≡ kind.Sequin ∷ kind.Sequin ∷ kind.Sequin ∷ kind.Sequin ∷ [])
    × (map kind_of (0x03 ∷ 0x13 ∷ 0x33 ∷ 0x3F ∷ []) ≡ kind.Stitch ∷ kind.Stitch ∷ kind.Stitch ∷ kind.Stitch ∷ [])
    -- without both low bits all is a stitch
    × (map kind_of (0x81 ∷ 0x82 ∷ 0xC1 ∷ 0xC2 ∷ 0xF1 ∷ 0xF2 ∷ 0x41 ∷ 0x42 ∷ [])
    ≡ kind.Stitch ∷ kind.Stitch ∷ kind.Stitch ∷ kind.Stitch ∷ kind.Stitch ∷ kind.Stitch ∷ kind.Stitch ∷ kind.Stitch ∷ [])
    × (map kind_of (0x80 ∷ 0xC0 ∷ 0xF0 ∷ 0x40 ∷ []) ≡ kind.Stitch ∷ kind.Stitch ∷ kind.Stitch ∷ kind.Stitch ∷ [])
known_up_read = (refl, refl, refl, refl, refl, refl, refl, refl, refl, refl)

-- bytes with all moves to the left and upwards have one encoding
pub known_plain : IsCanonicalByte 0xAA
known_plain = record {
  small = omega arith;
  x_lesser = omega arith;
  x_greater = omega arith;
  y_greater = omega arith;
  y_lesser = omega arith;
}

pub known_plain_third : IsCanonicalThird 0x2B
known_plain_third = record { small = omega arith; set = refl; x = omega arith; y = omega arith }
