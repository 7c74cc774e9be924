-- Double walks, which pass each line of a piece once in each direction, after J. Hopcroft and R.
-- Tarjan, "Algorithm 447: Efficient algorithms for graph manipulation", Communications of the ACM
-- 16 (1973). A depth-first search that goes out along a line comes back along it.
use Rattle.std.specs.Prelude.{◌≡◌, ℕ, ◌+◌, ◌==◌, ◌&&◌, Bool, true, false, not, List, [], ◌∷◌, None, All}
use Rattle.line_graph.specs.declared.pass.Pass.{Pass}
use Rattle.line_graph.specs.PieceGraphs.{PieceValue, one_if}
use Rattle.line_graph.specs.Pieces.{first_line}
use Rattle.line_graph.specs.PieceWalks.{BeginsWith, walk_start, walk_end_from}

-- Two directions are the same.
abbrev pub same_way : Bool → Bool → Bool
same_way true back = back
same_way false back = not back

-- The number of times that a walk passes a line in a direction.
abbrev pub directed_passes : ℕ → Bool → List Pass → ℕ
directed_passes line way [] = 0
directed_passes line way (pass ∷ rest) = one_if (pass.line == line && same_way way pass.back)
    + directed_passes line way rest

-- A walk passes a line once in each direction.
pub record IsPassedBothWays (walk : List Pass) (line : ℕ) : Type 0 where
  pub forwards : directed_passes line false walk ≡ 1
  pub backwards : directed_passes line true walk ≡ 1

-- A double walk: closed, beginning with the first line forwards, and passing each line of the piece
-- once in each direction and no other.
pub record IsDouble (p : PieceValue) (walk : List Pass) : Type 0 where
  pub closed : walk_end_from p.lines p.edges (walk_start p.lines p.edges walk) walk
      ≡ walk_start p.lines p.edges walk
  pub each : All (IsPassedBothWays walk) p.lines
  pub begins : BeginsWith (first_line p.lines) walk

-- A piece without a required start and end.
abbrev pub without_ends : PieceValue → PieceValue
without_ends p = record p { start = None; end = None }
