use Rattle.std.proofs.Common.{◌≡◌, map, take}
use Rattle.near_pieces.proofs.Names.{place_of}
use Rattle.near_pieces.proofs.piece_places.places_of.Given as goal

-- The places of the pieces so far.
abbrev pub invariant-loop-piece : goal.invariant-loop-piece
invariant-loop-piece l = l.places ≡ map place_of (take l.piece-index l.pieces)
