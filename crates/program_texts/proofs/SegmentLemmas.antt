-- Segments of lines, counted.
use Rattle.std.proofs.Common.{◌≡◌, ◌-◌, List, [], ◌∷◌, length, refl, arith}
use Rattle.design_model.specs.declared.point.Point.{Point}
use Rattle.line_sections.specs.Sections.{segments_from, segments_of}

-- A line has one segment for each point after the first.
pub segments_led : (p : Point) (rest : List Point) → length (segments_from p rest) ≡ length rest
segments_led p [] = refl
segments_led p (q ∷ rest) = omega (arith, segments_led q rest)

pub segments_counted : (points : List Point) → length (segments_of points) ≡ length points - 1
segments_counted [] = refl
segments_counted (p ∷ rest) = omega (arith, segments_led p rest)
