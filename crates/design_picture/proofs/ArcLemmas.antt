-- An arc, as it is written in two parts.
use Rattle.std.proofs.Common.{◌≡◌, ℕ, List, [], ◌∷◌, ◌++◌, codes, ap}
use Rattle.std.proofs.lemmas.List.{append_assoc}
use Rattle.std.specs.Fmt.{decimal}
use Rattle.design_model.specs.declared.point.Point.{Point}
use Rattle.design_picture.specs.Threads.{arc_text}
use Rattle.picture_parts.specs.Parts.{around, filled, point_text}
use Rattle.picture_parts.specs.Paths.{radii_text}

-- The radii and the end of an arc are the arc.
pub arc_in_parts : (radius : ℕ) (p : Point) → radii_text radius ++ around (codes ",0,0,1,") p [] ≡ arc_text radius p
unfolding arc_text around filled radii_text
arc_in_parts radius p = ap (λ (text : List ℕ). 65 ∷ text)
    (append_assoc (decimal radius) (44 ∷ decimal radius) (codes ",0,0,1," ++ (point_text p ++ [])))

-- Each part is appended.
pub arc_appended : (old with_radii new : List ℕ) (radius : ℕ) (p : Point) → with_radii ≡ old ++ radii_text radius
    → new ≡ with_radii ++ around (codes ",0,0,1,") p [] → new ≡ old ++ arc_text radius p
arc_appended old with_radii new radius p one two =
    rw (two, one, append_assoc old (radii_text radius) (around (codes ",0,0,1,") p []))
    (ap (λ (text : List ℕ). old ++ text) (arc_in_parts radius p))
