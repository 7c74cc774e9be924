-- The bands of cuts. A cut has a band on each line that leads out of it: a stretch of the line as
-- long as the weight of the cut, laid outward from the junction that the cut holds, beyond the
-- bands that were laid from there before. Weights count halves of a step. Points of bands are in
-- half tenths of a millimetre, so that the middle of a stitch needs no rounding.
use Rattle.std.specs.Prelude.{ℕ, ◌+◌, ◌+ℤ◌, List, [], ◌∷◌, drop, if◌then◌else◌, reverse, take}
use Rattle.design_model.specs.declared.point.Point.{Point}
use Rattle.line_graph.specs.declared.edge.Edge.{Edge}
use Rattle.line_graph.specs.Drawings.{DrawingValue}
use Rattle.line_graph.specs.LineNeedles.{needles_of_line}
use Rattle.odd_cuts.specs.declared.cut.Cut.{Cut}
use Rattle.odd_cuts.specs.Cuts.{has_member}

-- The middle of two points, in half tenths of a millimetre. The middle of a point and itself is
-- that point.
abbrev pub middle_between : Point → Point → Point
middle_between p q = record { x = p.x +ℤ q.x; y = p.y +ℤ q.y }

-- The half steps from the needle point p through further ones: each needle point, and the middle
-- of each stitch.
abbrev pub half_steps_from : Point → List Point → List Point
half_steps_from p [] = middle_between p p ∷ []
half_steps_from p (q ∷ rest) = middle_between p p ∷ middle_between p q ∷ half_steps_from q rest

-- The half steps along needle points.
abbrev pub half_steps : List Point → List Point
half_steps [] = []
half_steps (p ∷ rest) = half_steps_from p rest

-- A band: its cut, the number of the cut in its piece, from 0, and its half steps.
pub record Band : Type 0 where
  pub cut : Cut
  pub number : ℕ
  pub way : List Point

-- The band of a cut that begins with the first of the given half steps.
abbrev pub band_along : ℕ → Cut → List Point → Band
band_along number cut way = record { cut = cut; number = number; way = take (cut.weight + 1) way }

-- The bands of cuts on an edge, where the first cut has the given number. Half steps that have no
-- band yet lead `ahead` from the first junction of the edge, and `back` from its last one.
abbrev pub bands_from : ℕ → List Cut → Edge → (ahead back : List Point) → List Band
bands_from number [] e ahead back = []
bands_from number (cut ∷ rest) e ahead back =
    if has_member cut.members e.a
    then (if has_member cut.members e.b
    then bands_from (number + 1) rest e ahead back
    else band_along number cut ahead
    ∷ bands_from (number + 1) rest e (drop cut.weight ahead) back)
    else (if has_member cut.members e.b
    then band_along number cut back
    ∷ bands_from (number + 1) rest e ahead (drop cut.weight back)
    else bands_from (number + 1) rest e ahead back)

-- The half steps of a line from its first point.
abbrev pub half_steps_of_line : DrawingValue → ℕ → List Point
half_steps_of_line d line = half_steps (needles_of_line d line)

-- The bands of cuts on a line, which is that edge of its piece.
abbrev pub bands_on : DrawingValue → List Cut → ℕ → Edge → List Band
bands_on d cuts line e =
    bands_from 0 cuts e (half_steps_of_line d line) (reverse (half_steps_of_line d line))
