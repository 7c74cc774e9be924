-- Worked values of what records are taken for.
use Rattle.std.proofs.Common.{◌≡◌, ℤ, pos, negsuc, true, false, [], ◌∷◌, None, Some, refl}
use Rattle.record_formats.proofs.Names.{Point, trims_once, is_stop_in_place, moves_of_events, position_after_moves, length_of_moves, jump_event}
use Rattle.record_formats.specs.declared.event.Event.TheVariants as event

abbrev pub point : ℤ → ℤ → Point
point x y = record { x = x; y = y }

-- the third jump record of a run is taken for a trim too where two are the most, and never where there is no most
pub known_jump_event : (jump_event (Some 2) 2 (point (pos 1) (pos 0)) ≡ event.TrimmedJump (point (pos 1) (pos 0)))
    × (jump_event (Some 2) 3 (point (pos 1) (pos 0)) ≡ event.Jump (point (pos 1) (pos 0)))
    × (jump_event None 2 (point (pos 1) (pos 0)) ≡ event.Jump (point (pos 1) (pos 0)))
known_jump_event = (refl, refl, refl)

-- one cut among jumps is a trim, two are none, and neither is a stitch
pub known_trims_once : (trims_once (event.Jump (point (pos 2) (pos 2)) ∷ event.TrimmedJump (point (negsuc 1) (negsuc 1)) ∷ []) ≡ true)
    × (trims_once (event.Trim ∷ event.Trim ∷ []) ≡ false)
    × (trims_once (event.Jump (point (pos 0) (pos 0)) ∷ []) ≡ false)
    × (trims_once (event.Trim ∷ event.Stitch (point (pos 0) (pos 0)) ∷ []) ≡ false)
known_trims_once = (refl, refl, refl, refl)

-- there and back is twice the way
pub known_way :
    (length_of_moves (moves_of_events (event.Jump (point (pos 2) (negsuc 4)) ∷ event.Trim ∷ event.Jump (point (negsuc 1) (pos 5))
    ∷ [])) ≡ 10)
    × (position_after_moves (point (pos 7) (pos 7)) (point (pos 2) (negsuc 4) ∷ point (negsuc 1) (pos 5) ∷ [])
    ≡ point (pos 7) (pos 7))
known_way = (refl, refl)

-- a stop with a move is not in place
pub known_is_stop_in_place : (is_stop_in_place (event.StopBy (point (pos 0) (pos 0))) ≡ true)
    × (is_stop_in_place (event.StopBy (point (pos 0) (pos 1))) ≡ false)
known_is_stop_in_place = (refl, refl)
