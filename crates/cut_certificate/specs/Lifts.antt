-- The lifting of moats over the odd junctions of a piece to cuts of the piece. Widths count halves
-- of a step.
use Rattle.std.specs.Prelude.{◌≡◌, ℕ, ◌*◌, ◌<◌, ◌≤◌, List, length}
use Rattle.std.specs.List.{All, AllPairs}
use Rattle.blossom_match.specs.declared.matching.Moat.{Moat}
use Rattle.blossom_match.specs.Matchings.{AreLaminar, IsOddMoat, moat_load, width_of}
use Rattle.odd_cuts.specs.declared.cut.Cut.{Cut}
use Rattle.odd_cuts.specs.Cuts.{total_weight}
use Rattle.odd_cuts.specs.Packings.{IsPacking, IsPlainCut}
use Rattle.line_graph.specs.PieceGraphs.{PieceValue, odd_junctions}
use Rattle.odd_paths.specs.LeastRows.{AreRows, RowsValue, cost_at, terminal_of}

-- Moats over the odd junctions of a piece, by their indexes in order: odd sets, nested or disjoint.
-- The load between two junctions is at most two halves for each step of a least walk.
pub record AreLiftableMoats (p : PieceValue) (rows : RowsValue) (moats : List Moat) : Type 0 where
  pub rows_are : AreRows p rows
  pub terminals : rows.terminals ≡ odd_junctions p
  pub odd : All (IsOddMoat (length rows.terminals)) moats
  pub laminar : AllPairs AreLaminar moats
  pub loads : (t u : ℕ) → t < length rows.terminals → u < length rows.terminals
      → moat_load moats t u ≤ 2 * cost_at rows t (terminal_of rows u)

-- A packing whose total weight is the total width of the moats. Each cut has a weight of at least
-- 1, and its members rise. There are at most three cuts for each junction.
pub record IsLifted (p : PieceValue) (moats : List Moat) (cuts : List Cut) : Type 0 where
  pub packing : IsPacking p cuts
  pub total : total_weight cuts ≡ width_of moats
  pub plain : All IsPlainCut cuts
  pub few : length cuts ≤ 3 * length p.junctions
