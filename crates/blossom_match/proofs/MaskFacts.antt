-- Worked values of masked slacks.
use Rattle.std.proofs.Common.{◌≡◌, [], ◌∷◌, map, refl}
use Rattle.blossom_match.proofs.Names.{masked_slack}

-- 0 and 1 are shown, 1 higher than what is left for it; nothing is left for 2, and 3 isn't shown
pub known_shown : map (masked_slack (3 ∷ 9 ∷ 2 ∷ 1 ∷ []) (10 ∷ 7 ∷ 400001 ∷ 8 ∷ []) (0 ∷ 0 ∷ 0 ∷ 400001 ∷ [])) (0 ∷ 1 ∷ 2 ∷ 3 ∷ [])
    ≡ 7 ∷ 0 ∷ 400001 ∷ 400001 ∷ []
known_shown = refl
