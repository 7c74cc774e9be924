-- The double walk of a piece: a walk that passes each line once in each direction.
-- Costs count steps.
use Rattle.std.specs.Prelude.{◌≡◌, ℕ, ◌+◌, ◌*◌, true, List, [], length}
use Rattle.odd_cuts.specs.declared.certificate.PieceCert.{PieceCert}
use Rattle.double_run.specs.DoubleWalks.{IsDouble, without_ends}
use Rattle.line_graph.specs.Drawings.{DrawingValue}
use Rattle.line_graph.specs.PieceGraphs.{PieceValue, piece_graph}
use Rattle.line_graph.specs.PieceWalks.{is_fitting_walk, piece_cost, walk_cost}
use Rattle.line_graph.specs.Walks.{needles_of_walk}

-- A certificate with a double walk over the piece of the given lines, without cuts. The retraced
-- cost is the cost of the lines. There is one needle point more than the walk costs steps.
pub record IsDoubled (d : DrawingValue) (lines : List ℕ) (cert : PieceCert) : Type 0 where
  pub double : IsDouble (piece_graph d lines) cert.walk
  pub retraced : cert.retraced ≡ piece_cost (piece_graph d lines)
  pub cuts : cert.cuts ≡ []
  pub penetrations : length (needles_of_walk d cert.walk) ≡ 2 * piece_cost (piece_graph d lines) + 1

-- A certificate with a double walk over a piece, without cuts. Used only inside this crate.
pub record IsDoubleCert (p : PieceValue) (cert : PieceCert) : Type 0 where
  pub double : IsDouble p cert.walk
  pub fitting : is_fitting_walk (without_ends p) cert.walk ≡ true
  pub cost : walk_cost p cert.walk ≡ 2 * piece_cost p
  pub retraced : cert.retraced ≡ piece_cost p
  pub cuts : cert.cuts ≡ []
