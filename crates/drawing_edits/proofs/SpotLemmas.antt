-- The starts and ends of a drawing are needle points, as they are ends of its lines.
use Rattle.std.proofs.Common.{◌≡◌, ◌==◌, ◌||◌, Bool, true, false, List, [], ◌∷◌, All, sym, subst, arith}
use Rattle.drawing_edits.proofs.Names.{nat_tests, All-head, All-tail, list_any, Point, is_same_point, Spot, LineValue, IsLine, is_junction, IsNeedlePoint, and_parts, endpoints, has_end_at_spot, last_point_or}
use Rattle.design_model.proofs.CallerLemmas.{same_is}
use Rattle.step_splitter.proofs.CallerLemmas.{last_in_range}

-- one of two tests passes
either_true : {R : Type 0} (a b : Bool) → (a || b) ≡ true → (a ≡ true → R) → (b ≡ true → R) → R
either_true a b h1 h2 h3 = grind (arith, nat_tests)

end_in_range : (at : Point) (points : List Point) → All IsNeedlePoint points
    → list_any (is_same_point at) (endpoints points) ≡ true → IsNeedlePoint at
end_in_range at [] all found = absurd (let no : ⊥ = cc in no)
end_in_range at (p ∷ rest) all found =
    either_true (is_same_point at p) (list_any (is_same_point at) (last_point_or p rest ∷ [])) found
    (λ is. subst IsNeedlePoint (sym (same_is at p is)) (All-head IsNeedlePoint p rest all))
    (λ later. either_true (is_same_point at (last_point_or p rest)) false later
    (λ is. subst IsNeedlePoint (sym (same_is at (last_point_or p rest) is))
    (last_in_range p rest (All-head IsNeedlePoint p rest all) (All-tail IsNeedlePoint p rest all)))
    (λ never. absurd (let no : ⊥ = cc in no)))

-- a line that can be sewn
abbrev IsLineValue : LineValue → Type 0
IsLineValue line = IsLine line.points

spot_in_range : (lines : List LineValue) (spot : Spot) → All (λ line. IsLine line.points) lines
    → is_junction lines spot ≡ true → IsNeedlePoint spot.at
spot_in_range [] spot all found = absurd (let no : ⊥ = cc in no)
spot_in_range (line ∷ rest) spot all found =
    either_true (has_end_at_spot spot line) (is_junction rest spot) found
    (λ here. end_in_range spot.at line.points (All-head IsLineValue line rest all).in_range
    (and_parts (line.block == spot.block) (list_any (is_same_point spot.at) (endpoints line.points)) here).1)
    (λ later. spot_in_range rest spot (All-tail IsLineValue line rest all) later)

pub spots_in_range : (lines : List LineValue) (spots : List Spot) → All (λ line. IsLine line.points) lines
    → All (λ spot. is_junction lines spot ≡ true) spots → All (λ spot. IsNeedlePoint spot.at) spots
spots_in_range lines spots all there = λ i d below. spot_in_range lines _ all (there i d below)
