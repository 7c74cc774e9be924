-- The limits of tables.
use Rattle.std.proofs.Common.{◌≡◌, refl}
use Rattle.odd_sets.proofs.Names.{MAX_DISTANCE, MAX_PLACES}

-- the most places of a table
pub known_places : MAX_PLACES ≡ 1024
known_places = refl

-- the largest distance, in steps
pub known_distance : MAX_DISTANCE ≡ 200000
known_distance = refl
