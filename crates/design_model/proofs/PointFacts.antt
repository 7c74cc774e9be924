-- Worked values of points, and of where acts leave them.
use Rattle.std.proofs.Common.{◌≡◌, pos, negsuc, true, false, [], ◌∷◌, map, refl}
use Rattle.design_model.proofs.Names.{is_act_in_range, leaves_thread_loose, needle_position_after, is_same_point, is_point_within, move_between, move_size}
use Rattle.design_model.specs.declared.act.Act.TheVariants.{Needle, Trim, Stop}
use Rattle.design_model.proofs.ExtentFacts.{place}

pub known_move : move_between (place (pos 3) (negsuc 3)) (place (negsuc 4) (pos 12)) ≡ place (negsuc 7) (pos 16)
known_move = refl

-- the larger axis counts, either way
pub known_sizes : (map move_size (place (pos 3) (negsuc 4) ∷ place (negsuc 6) (pos 2) ∷ []) ≡ 5 ∷ 7 ∷ [])
    × (map (is_point_within 5) (place (pos 5) (negsuc 4) ∷ place (pos 6) (pos 0) ∷ place (pos 0) (negsuc 5) ∷ [])
    ≡ true ∷ false ∷ false ∷ [])
    × (map (is_same_point (place (pos 3) (pos 4))) (place (pos 3) (pos 4) ∷ place (pos 4) (pos 3) ∷ place (pos 3) (negsuc 3)
    ∷ place (negsuc 2) (pos 4) ∷ []) ≡ true ∷ false ∷ false ∷ false ∷ [])
    -- a needle leaves the thread where it is; a trim and a stop leave it loose where it was
    × (map (needle_position_after (place (pos 1) (pos 2))) (Needle (place (pos 3) (pos 4)) true ∷ Trim ∷ Stop ∷ [])
    ≡ place (pos 3) (pos 4) ∷ place (pos 1) (pos 2) ∷ place (pos 1) (pos 2) ∷ [])
    × (map leaves_thread_loose (Needle (place (pos 3) (pos 4)) true ∷ Trim ∷ Stop ∷ []) ≡ false ∷ true ∷ true ∷ [])
    × (map is_act_in_range (Needle (place (pos 30000) (negsuc 29999)) false ∷ Needle (place (pos 0) (pos 30001)) false
    ∷ Trim ∷ Stop ∷ [])
    ≡ true ∷ false ∷ true ∷ true ∷ [])
known_sizes = (refl, refl, refl, refl, refl, refl)
