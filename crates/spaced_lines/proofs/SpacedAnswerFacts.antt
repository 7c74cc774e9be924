-- Worked values of spaced drawings, in tenths of a millimetre.
use Rattle.std.proofs.Common.{◌≡◌, ℕ, pos, None, List, [], ◌∷◌, Ok, Err, refl}
use Rattle.design_model.specs.Lengths.{square_of}
use Rattle.spaced_lines.proofs.Names.{Point, DrawingValue, Spot, LineValue, SpacingLimits, space_of}
use Rattle.line_graph.specs.declared.draw_kind.DrawKind.TheVariants as kind

abbrev at : ℕ → ℕ → Point
at x y = record { x = pos x; y = pos y }

abbrev through : List Point → LineValue
through points = record { block = 0; points = points }

abbrev of_lines : List LineValue → List Spot → DrawingValue
of_lines lines starts = record { label = []; step = 30; threads = 7 ∷ []; lines = lines; starts = starts; ends = [] }

-- limits of which none is given
abbrev limits : SpacingLimits
limits = record { length = None; leeway = None }

-- a line that ends inside another one, with a point that may be left out
abbrev branch : DrawingValue
branch = of_lines (through (at 0 0 ∷ at 10 0 ∷ at 20 0 ∷ []) ∷ through (at 10 0 ∷ at 10 4 ∷ at 10 9 ∷ []) ∷ []) []

-- the drawing is spaced with a start at the end of the line
pub known_space : space_of limits branch (record { block = 0; at = at 10 9 } ∷ []) [] ≡ Ok (record {
  drawn = of_lines (through (at 0 0 ∷ at 10 0 ∷ at 20 0 ∷ []) ∷ through (at 10 0 ∷ at 10 9 ∷ []) ∷ []) [];
  joined = of_lines (through (at 0 0 ∷ at 10 0 ∷ []) ∷ through (at 10 0 ∷ at 20 0 ∷ []) ∷ through (at 10 0 ∷ at 10 9 ∷ []) ∷ [])
      (record { block = 0; at = at 10 9 } ∷ []);
})
unfolding square_of
known_space = refl

-- a start at the point that is left out is refused, as the joined drawing has no junction there
pub known_space_refused : space_of limits branch (record { block = 0; at = at 10 4 } ∷ []) [] ≡ Err kind.NoJunction
unfolding square_of
known_space_refused = refl
