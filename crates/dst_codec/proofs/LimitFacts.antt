-- The ending and the limits of the format. Moves are in tenths of a millimetre, the header in bytes.
use Rattle.std.proofs.Common.{◌≡◌, codes, refl}
use Rattle.dst_codec.proofs.Names.{LIMIT, MAX_STOPS, HEADER_LENGTH, dst_meaning, MAX_FLOAT_HOPS}

pub known_format : (dst_meaning.ending ≡ codes "dst") × (dst_meaning.limit ≡ 121)
known_format = (refl, refl)

-- how far a record moves on each axis
pub known_move : LIMIT ≡ 121
known_move = refl

-- the jumps of a float, the stops of a file, and its header
pub known_float : (MAX_FLOAT_HOPS ≡ 3)
    × (MAX_STOPS ≡ 999)
    × (HEADER_LENGTH ≡ 512)
known_float = (refl, refl, refl)
