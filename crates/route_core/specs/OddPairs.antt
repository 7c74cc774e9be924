-- A matching of the odd junctions of a piece, with moats (dual variables) of the same total. Costs
-- count steps, widths halves of a step.
use Rattle.std.specs.Prelude.{◌≡◌, ◌*◌, ◌+◌, ◌≤◌, true, List, None, length, All}
use Rattle.blossom_match.specs.declared.matching.Moat.{Moat}
use Rattle.blossom_match.specs.declared.matching.Pair.{Pair}
use Rattle.blossom_match.specs.Matchings.{IsPerfectMatching, width_of}
use Rattle.cut_certificate.specs.Lifts.{AreLiftableMoats}
use Rattle.line_graph.specs.declared.pass.Pass.{Pass}
use Rattle.line_graph.specs.PieceGraphs.{PieceValue, given_start, odd_junctions}
use Rattle.line_graph.specs.Pieces.{first_line}
use Rattle.line_graph.specs.PieceWalks.{BeginsWith, is_fitting_walk, piece_cost, walk_cost}
use Rattle.odd_paths.specs.LeastRows.{AreRows, RowsValue}
use Rattle.route_core.specs.Copies.{IsPairOf, pair_costs}

-- The rows of least costs from the odd junctions of a piece, in order.
pub record AreOddRows (p : PieceValue) (rows : RowsValue) : Type 0 where
  pub rows_are : AreRows p rows
  pub terminals : rows.terminals ≡ odd_junctions p

-- A perfect matching of the odd junctions, with moats whose total width is twice the cost of least
-- walks between the pairs.
pub record AreOddPairs (p : PieceValue) (rows : RowsValue) (pairs : List Pair)
    (moats : List Moat) : Type 0 where
  pub moats_are : AreLiftableMoats p rows moats
  pub pairs_are : All (IsPairOf rows) pairs
  pub each : IsPerfectMatching (length rows.terminals) pairs
  pub paid : width_of moats ≡ 2 * pair_costs rows pairs

-- A fitting walk whose cost, above that of the lines, is the cost of least walks between the pairs.
pub record IsWalkBy (p : PieceValue) (rows : RowsValue) (pairs : List Pair)
    (walk : List Pass) : Type 0 where
  pub fitting : is_fitting_walk p walk ≡ true
  pub begins : given_start p ≡ None → BeginsWith (first_line p.lines) walk
  pub some : 1 ≤ length walk
  pub costs : walk_cost p walk ≡ piece_cost p + pair_costs rows pairs
