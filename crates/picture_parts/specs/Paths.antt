-- Paths: shapes of lines, whose look depends on their class.
use Rattle.std.specs.Prelude.{ℕ, List, [], ◌∷◌, ◌++◌, codes}
use Rattle.std.specs.Fmt.{decimal}
use Rattle.design_model.specs.declared.point.Point.{Point}
use Rattle.picture_parts.specs.Parts.{around, ended, filled}

-- The beginning of the path of a class.
unfoldable pub path_start : List ℕ → List ℕ
path_start class = filled (codes "<path class='@' d='") (class ∷ [])

-- The beginning of the path of a class and a colour.
unfoldable pub coloured_path : List ℕ → List ℕ → List ℕ
coloured_path class colour = filled (codes "<path class='@' stroke='@' d='") (class ∷ colour ∷ [])

-- A path goes on at a point.
unfoldable pub move_text : Point → List ℕ
move_text p = around (10 ∷ codes "M") p []

-- A straight line to a point.
unfoldable pub straight_text : Point → List ℕ
straight_text p = around (codes "L") p []

-- The beginning of an arc whose two radii are the same.
unfoldable pub radii_text : ℕ → List ℕ
radii_text radius = codes "A" ++ (decimal radius ++ (codes "," ++ decimal radius))

-- The end of a path.
unfoldable pub path_end : List ℕ
path_end = filled (ended (codes "'/>")) []
