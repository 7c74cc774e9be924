-- The checks are exact: they find a fault exactly where there is one. Weights count halves of a
-- step, costs count steps.
use Rattle.std.specs.Prelude.{◌≡◌, ◌↔◌, ℕ, ◌*◌, true, List, None}
use Rattle.odd_cuts.specs.declared.cut.Cut.{Cut}
use Rattle.odd_cuts.specs.CutFaults.{cuts_fault}
use Rattle.odd_cuts.specs.Cuts.{total_weight}
use Rattle.odd_cuts.specs.Packings.{IsPacking}
use Rattle.odd_cuts.specs.WalkFaults.{walk_fault}
use Rattle.line_graph.specs.declared.pass.Pass.{Pass}
use Rattle.line_graph.specs.ValidPieces.{IsValidPiece}
use Rattle.line_graph.specs.PieceGraphs.{PieceValue}
use Rattle.line_graph.specs.PieceWalks.{is_fitting_walk}

-- A walk over a piece has no fault exactly where it fits the piece.
abbrev pub WalkFaultsAreExact : Type 0
WalkFaultsAreExact = (p : PieceValue) (walk : List Pass) → IsValidPiece p
    → (walk_fault p walk ≡ None) ↔ (is_fitting_walk p walk ≡ true)

-- Cuts of a piece have no fault exactly where they are a packing with a total weight of twice the
-- retraced cost.
abbrev pub CutFaultsAreExact : Type 0
CutFaultsAreExact = (p : PieceValue) (retraced : ℕ) (cuts : List Cut) → IsValidPiece p
    → (cuts_fault p retraced cuts ≡ None) ↔ (IsPacking p cuts × (total_weight cuts ≡ 2 * retraced))
