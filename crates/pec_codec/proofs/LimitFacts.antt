-- The limits of blocks. Moves are in tenths of a millimetre, lengths in bytes.
use Rattle.std.proofs.Common.{◌≡◌, refl}
use Rattle.pec_codec.proofs.Names.{HEADER_LENGTH, LABELS_LENGTH, LIMIT, MAX_STOPS, THUMBNAIL_LENGTH}

-- how far a written record moves on each axis, and the stops of a block
pub known_move : (LIMIT ≡ 2047)
    × (MAX_STOPS ≡ 254)
known_move = (refl, refl)

-- the lengths of a block's parts
pub known_labels : (LABELS_LENGTH ≡ 512)
    × (HEADER_LENGTH ≡ 528)
    × (THUMBNAIL_LENGTH ≡ 228)
known_labels = (refl, refl, refl)
