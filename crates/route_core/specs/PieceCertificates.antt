-- The certificate of a piece: it shows that the walk over the piece is least. Weights of cuts count
-- halves of a step, costs count steps.
use Rattle.std.specs.Prelude.{◌≡◌, ◌≤◌, ◌+◌, ◌*◌, true, None, length}
use Rattle.odd_cuts.specs.declared.certificate.PieceCert.{PieceCert}
use Rattle.odd_cuts.specs.Cuts.{total_weight}
use Rattle.odd_cuts.specs.Packings.{IsPacking}
use Rattle.line_graph.specs.PieceGraphs.{PieceValue, given_start}
use Rattle.line_graph.specs.Pieces.{first_line}
use Rattle.line_graph.specs.PieceWalks.{BeginsWith, IsLeastWalk, is_fitting_walk, piece_cost, walk_cost}

-- A certificate with a least walk over a piece, and with the packing of odd cuts that proves it
-- least. The total of the packing is twice the retraced cost. The walk begins with the first line
-- forwards, if the piece has no start and no end. It has no more passes than it costs steps, and
-- there are at most three cuts for each junction.
pub record CertifiesLeastWalk (p : PieceValue) (cert : PieceCert) : Type 0 where
  pub fitting : is_fitting_walk p cert.walk ≡ true
  pub begins : given_start p ≡ None → BeginsWith (first_line p.lines) cert.walk
  pub retraced : walk_cost p cert.walk ≡ piece_cost p + cert.retraced
  pub packing : IsPacking p cert.cuts
  pub total : total_weight cert.cuts ≡ 2 * cert.retraced
  pub least : IsLeastWalk p cert.walk
  pub few_passes : length cert.walk ≤ walk_cost p cert.walk
  pub few_cuts : length cert.cuts ≤ 3 * length p.junctions
