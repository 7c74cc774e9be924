-- The best ends of a walk over a piece. Costs count steps.
use Rattle.std.specs.Prelude.{◌≡◌, ◌≢◌, ℕ, ◌≤◌, true, List, [], Option, Some, None, Contains}
use Rattle.free_ends.specs.declared.end_choice.BestEnds.{BestEnds}
use Rattle.free_ends.specs.declared.end_choice.WalkEnds.{WalkEnds}
use Rattle.line_graph.specs.declared.pass.Pass.{Pass}
use Rattle.line_graph.specs.PieceGraphs.{PieceValue, odd_junctions}
use Rattle.line_graph.specs.PieceWalks.{IsLeastWalk, covers, is_fitting_walk, walk_cost}
use Rattle.odd_paths.specs.LeastRows.{WalkLeads}

-- A piece has neither start nor end.
pub record HasFreeEnds (p : PieceValue) : Type 0 where
  pub start : p.start ≡ None
  pub end : p.end ≡ None

-- The piece with the given start and end, or as it is where none are given.
abbrev pub piece_with_ends : PieceValue → Option WalkEnds → PieceValue
piece_with_ends p None = p
piece_with_ends p (Some ends) = record p { start = Some ends.start; end = Some ends.end }

-- A walk that passes each line of a piece, from whatever junction to whatever junction.
pub record IsCoveringWalk (p : PieceValue) (walk : List Pass) : Type 0 where
  pub from : ℕ
  pub to : ℕ
  pub leads : WalkLeads p from to walk
  pub covered : covers p.lines walk ≡ true

-- The ends are two different odd junctions of a piece, or none.
abbrev pub AreOddEnds : PieceValue → Option WalkEnds → Type 0
AreOddEnds p None = Unit {0}
AreOddEnds p (Some ends) = Contains (odd_junctions p) ends.start
    × Contains (odd_junctions p) ends.end × (ends.start ≢ ends.end)

-- The best ends of a walk over a piece, and its cost: a fitting walk with these ends has that cost,
-- and no walk over all lines costs less, whatever its ends. There are none only where no junction
-- is odd.
pub record AreBestEnds (p : PieceValue) (ends : Option WalkEnds) (cost : ℕ) : Type 0 where
  pub odd : AreOddEnds p ends
  pub none : ends ≡ None → odd_junctions p ≡ []
  pub walk : List Pass
  pub fitting : is_fitting_walk (piece_with_ends p ends) walk ≡ true
  pub costs : walk_cost p walk ≡ cost
  pub least : (other : List Pass) → IsCoveringWalk p other → cost ≤ walk_cost p other

-- The cost of a least closed walk over a piece without start and end.
pub record IsLeastClosedCost (p : PieceValue) (cost : ℕ) : Type 0 where
  pub walk : List Pass
  pub fitting : is_fitting_walk p walk ≡ true
  pub costs : walk_cost p walk ≡ cost
  pub least : IsLeastWalk p walk

-- The best ends of a walk over a piece, its cost, and that of a least closed walk.
pub record IsBestChoice (p : PieceValue) (best : BestEnds) : Type 0 where
  pub ends : AreBestEnds p best.ends best.cost
  pub closed : IsLeastClosedCost p best.closed
