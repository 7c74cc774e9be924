-- The limits of formats: moves in tenths of a millimetre, hops, and bytes.
use Rattle.std.proofs.Common.{◌≡◌, refl}
use Rattle.format_traits.specs.declared.decoder.TheConstants.{MAX_PENDING}
use Rattle.format_traits.specs.declared.format_object.TheConstants.{MIN_LIMIT, MAX_LIMIT}
use Rattle.format_traits.specs.declared.move_hops.TheConstants.{MAX_MOVE}

-- the bytes that may wait for others
pub known_pending : MAX_PENDING ≡ 528
known_pending = refl

-- the least and the greatest limit that one move of a format may have
pub known_least : (MIN_LIMIT ≡ 121)
    × (MAX_LIMIT ≡ 2047)
known_least = (refl, refl)

-- the greatest move between two needles
pub known_move : MAX_MOVE ≡ 60000
known_move = refl
