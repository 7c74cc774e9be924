-- The pieces of a drawing, which are the connected components of its lines: lines of one block,
-- connected by shared ends. Indexes of lines count from 0.
use Rattle.std.specs.Prelude.{◌≡◌, ◌≢◌, ℕ, ◌<◌, ◌==◌, Bool, true, ◌&&◌, List, [], ◌∷◌, Some, length, map, slice_get, All, AllPairs, Contains}
use Rattle.std.specs.List.{concat, list_any}
use Rattle.std.specs.List.Sorted.{IsStrictlyIncreasing}
use Rattle.design_model.specs.declared.point.Point.{Point}
use Rattle.design_model.specs.Points.{is_same_point}
use Rattle.line_sections.specs.Lines.{LineValue}
use Rattle.line_graph.specs.Drawings.{DrawingValue, endpoints}

-- Two lists of points have a point in common.
abbrev pub shares_point : List Point → List Point → Bool
shares_point ps qs = list_any (λ p. list_any (is_same_point p) qs) ps

-- Two lines touch: they are in one block, and an end of one is an end of the other.
abbrev pub touches : LineValue → LineValue → Bool
touches a b = a.block == b.block && shares_point (endpoints a.points) (endpoints b.points)

-- The lines with indexes i and j exist and touch.
pub record LinesTouch (d : DrawingValue) (i j : ℕ) : Type 0 where
  pub one : LineValue
  pub other : LineValue
  pub one_is : slice_get d.lines i ≡ Some one
  pub other_is : slice_get d.lines j ≡ Some other
  pub touch : touches one other ≡ true

-- A path of lines from line i to line j: each line of the chain touches the next.
abbrev pub IsPathOfLines : DrawingValue → ℕ → List ℕ → ℕ → Type 0
IsPathOfLines d i [] j = i ≡ j
IsPathOfLines d i (k ∷ rest) j = LinesTouch d i k × IsPathOfLines d k rest j

-- Two lines are connected: a path of touching lines leads from one to the other.
abbrev pub AreConnected : DrawingValue → ℕ → ℕ → Type 0
AreConnected d i j = (chain : List ℕ) × IsPathOfLines d i chain j

-- The first line of a piece, or 0 for an empty list.
abbrev pub first_line : List ℕ → ℕ
first_line [] = 0
first_line (line ∷ rest) = line

-- The pieces of a drawing, ordered by their first lines. Each line is in one piece, and two lines
-- are in one piece exactly where they are connected. Within a piece the indexes of lines increase.
pub record ArePieces (d : DrawingValue) (pieces : List (List ℕ)) : Type 0 where
  pub filled : All (λ piece. piece ≢ []) pieces
  pub there : All (λ line. line < length d.lines) (concat pieces)
  pub covered : (line : ℕ) → line < length d.lines → Contains (concat pieces) line
  pub joined : All (λ piece. All (AreConnected d (first_line piece)) piece) pieces
  pub apart : AllPairs (λ a b. AreConnected d (first_line a) (first_line b) → ⊥) pieces
  pub rising : All IsStrictlyIncreasing pieces
  pub ordered : IsStrictlyIncreasing (map first_line pieces)
