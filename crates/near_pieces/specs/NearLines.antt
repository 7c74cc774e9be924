-- The lines and the starts of pieces in an order, a run of pieces of one block after another.
use Rattle.std.specs.Prelude.{◌≡◌, ℕ, List, [], ◌∷◌, ◌++◌, Option, Some, None, map, slice_get}
use Rattle.design_model.specs.declared.point.Point.{Point}
use Rattle.line_graph.specs.declared.piece.Piece.{Piece}
use Rattle.line_sections.specs.declared.spot.Spot.{Spot}
use Rattle.line_sections.specs.Lines.{LineValue}
use Rattle.near_pieces.specs.VisitOrders.{IsNearOrder}
use Rattle.near_pieces.specs.PiecePlaces.{needle_after, place_of, starts_of}
use Rattle.near_pieces.specs.PieceRuns.{block_runs}

-- A list of what there is.
abbrev pub if_there : Option LineValue → List LineValue
if_there None = []
if_there (Some line) = line ∷ []

-- The lines with the given indexes, in their order.
abbrev pub lines_numbered : List LineValue → List ℕ → List LineValue
lines_numbered lines [] = []
lines_numbered lines (i ∷ rest) = if_there (slice_get lines i) ++ lines_numbered lines rest

-- The lines of a piece, if there is one.
abbrev pub lines_of : List LineValue → Option Piece → List LineValue
lines_of lines None = []
lines_of lines (Some p) = lines_numbered lines p.lines

-- The lines of the pieces of a run in an order of their indexes.
abbrev pub lines_in_run : List LineValue → List Piece → List ℕ → List LineValue
lines_in_run lines run [] = []
lines_in_run lines run (i ∷ rest) = lines_of lines (slice_get run i) ++ lines_in_run lines run rest

-- The starts of the pieces of a run in an order, which is sewn after a point.
abbrev pub starts_in_run : Option Point → List Piece → List ℕ → List Spot
starts_in_run from run [] = []
starts_in_run from run (i ∷ rest) = starts_of from (slice_get run i)
    ++ starts_in_run (needle_after from (slice_get run i)) run rest

-- Where the needle is after the pieces of a run in an order.
abbrev pub needle_after_run : Option Point → List Piece → List ℕ → Option Point
needle_after_run from run [] = from
needle_after_run from run (i ∷ rest) = needle_after_run (needle_after from
    (slice_get run i)) run rest

-- Orders of runs, one for each, with little travel from where the needle is then.
abbrev pub AreNearOrders : Option Point → List (List Piece) → List (List ℕ) → Type 0
AreNearOrders from [] [] = Unit {0}
AreNearOrders from (run ∷ runs) (order ∷ orders) = IsNearOrder (map place_of run) from order
    × AreNearOrders (needle_after_run from run order) runs orders
AreNearOrders from [] (order ∷ orders) = ⊥
AreNearOrders from (run ∷ runs) [] = ⊥

-- The lines of all runs in their orders.
abbrev pub lines_in : List LineValue → List (List Piece) → List (List ℕ) → List LineValue
lines_in lines (run ∷ runs)
    (order ∷ orders) = lines_in_run lines run order ++ lines_in lines runs orders
lines_in lines [] orders = []
lines_in lines (run ∷ runs) [] = []

-- The starts of all runs in their orders.
abbrev pub starts_in : Option Point → List (List Piece) → List (List ℕ) → List Spot
starts_in from (run ∷ runs) (order ∷ orders) = starts_in_run from run order
    ++ starts_in (needle_after_run from run order) runs orders
starts_in from [] orders = []
starts_in from (run ∷ runs) [] = []

-- Lines and starts of pieces, the runs of which are in orders with little travel, after a point.
pub record AreNearLines (lines : List LineValue) (from : Option Point) (pieces : List Piece)
    (new : List LineValue) (starts : List Spot) : Type 0 where
  pub orders : List (List ℕ)
  pub near : AreNearOrders from (block_runs pieces) orders
  pub lines_are : new ≡ lines_in lines (block_runs pieces) orders
  pub starts_are : starts ≡ starts_in from (block_runs pieces) orders
