-- The bounds that packings give for walks. Weights count halves of a step, costs count steps.
use Rattle.std.specs.Prelude.{◌≡◌, ◌+◌, ◌*◌, ◌≤◌, true, List}
use Rattle.odd_cuts.specs.declared.cut.Cut.{Cut}
use Rattle.odd_cuts.specs.Cuts.{total_weight}
use Rattle.odd_cuts.specs.Packings.{IsPacking}
use Rattle.line_graph.specs.declared.pass.Pass.{Pass}
use Rattle.line_graph.specs.ValidPieces.{IsValidPiece}
use Rattle.line_graph.specs.PieceGraphs.{PieceValue}
use Rattle.line_graph.specs.PieceWalks.{IsLeastWalk, is_fitting_walk, piece_cost, walk_cost}

-- Weak duality: the total weight of a packing is at most twice the cost of a fitting walk above the
-- lines of the piece.
abbrev pub BoundsWalks : Type 0
BoundsWalks = (p : PieceValue) (cuts : List Cut) (walk : List Pass) → IsValidPiece p
    → IsPacking p cuts
    → is_fitting_walk p walk ≡ true → total_weight cuts + 2 * piece_cost p ≤ 2 * walk_cost p walk

-- A fitting walk is least if twice its cost above the lines of the piece equals the total weight of
-- a packing.
abbrev pub ProvesLeast : Type 0
ProvesLeast = (p : PieceValue) (cuts : List Cut) (walk : List Pass) → IsValidPiece p
    → IsPacking p cuts
    → total_weight cuts + 2 * piece_cost p ≡ 2 * walk_cost p walk → IsLeastWalk p walk

-- The total weight of a packing is at most twice the cost of the lines.
abbrev pub BoundsTotal : Type 0
BoundsTotal = (p : PieceValue) (cuts : List Cut) → IsValidPiece p → IsPacking p cuts
    → total_weight cuts ≤ 2 * piece_cost p
