-- The headline: a design sews each piece of a drawing by one thread, and no thread over that piece
-- needs fewer needle points. Read this file first, then what it names. Needle points are the
-- penetrations of the cloth; costs count steps, weights of cuts count halves of a step.
--
-- How to read it. `A ≡ B` says that two values are equal, `A × B` that both statements hold.
-- `(x : T) → P` says P of every x of type T, `(x : T) × P` of some x, and `P → Q` that P implies Q.
-- `⊥` never holds, and `Unit {0}` always does. `λ x. e` is the function from x to e.
-- A record of statements, as IsLeastThread, is a statement: it holds where all its fields do. A
-- field of it that is a value, as `pieces : List (List ℕ)`, says that there is such a value, and
-- later fields speak of it. In other records, as DrawingValue, all fields are values.
-- `abbrev` begins a definition: its type, then its value, by cases. `pub` lets others import it.
-- `Type 0` is the type of statements, and of types. The numbers ℕ begin at 0, and `-` stops there.
-- A name from `specs.declared` is a type of the code: declared.cut.Cut is the struct of src/cut.rt.
use Rattle.std.specs.Prelude.{◌≡◌, ℕ, ◌+◌, ◌*◌, ◌≤◌, List, length, map, IsTrue, sum_by}
use Rattle.std.specs.List.{AllZip, list_all}
use Rattle.odd_cuts.specs.declared.certificate.PieceCert.{PieceCert}
use Rattle.odd_cuts.specs.declared.cut.Cut.{Cut}
use Rattle.odd_cuts.specs.Certificates.{walks_of}
use Rattle.odd_cuts.specs.DrawnCuts.{IsPackingOver}
use Rattle.design_model.specs.declared.point.Point.{Point}
use Rattle.design_model.specs.Acts.{acts_along, acts_without_numbers}
use Rattle.design_model.specs.Designs.{DesignValue}
use Rattle.design_model.specs.Points.{is_point_within}
use Rattle.line_graph.specs.declared.pass.Pass.{Pass}
use Rattle.line_graph.specs.Drawings.{DrawingValue}
use Rattle.line_graph.specs.DrawnWalks.{IsThreadOver}
use Rattle.line_graph.specs.Pieces.{ArePieces}
use Rattle.line_graph.specs.Runs.{run_of, sewn_acts_after}
use Rattle.line_graph.specs.Walks.{needles_of_walk}
use Rattle.line_graph.specs.LineNeedles.{cost_of_line}

-- A piece of a drawing, given by its lines, with the certificate of its thread. The thread runs
-- over these lines alone and over each of them, from point to point. No thread over the piece has
-- fewer needle points. The reason is a packing of odd cuts, whose weights sum to twice the steps
-- that the thread sews again.
pub record IsLeastThread (d : DrawingValue) (lines : List ℕ) (cert : PieceCert) : Type 0 where
  pub thread : IsThreadOver d lines cert.walk
  pub least : (other : List Pass) → IsThreadOver d lines other
      → length (needles_of_walk d cert.walk) ≤ length (needles_of_walk d other)
  pub penetrations : length (needles_of_walk d cert.walk)
      ≡ sum_by (cost_of_line d) lines + cert.retraced + 1
  pub packing : IsPackingOver d lines cert.cuts
  pub total : sum_by (λ (cut : Cut). cut.weight) cert.cuts ≡ 2 * cert.retraced

-- A design sews a drawing as least redwork, by the walks of a certificate. Each connected piece of
-- the drawing has one thread, and it is least. The acts of the design are those that sew the
-- threads in order: a stop for each further block, the needle points, and a trim after each thread.
pub record IsLeastRedwork (d : DrawingValue) (design : DesignValue) (certs : List PieceCert)
    : Type 0 where
  pub pieces : List (List ℕ)
  pub pieces_are : ArePieces d pieces
  pub threads : AllZip (IsLeastThread d) pieces certs
  pub sewn : acts_without_numbers (acts_along design.commands)
      ≡ sewn_acts_after 0 (map (run_of d) (walks_of certs))

-- A routed design: least redwork, in a file whose records move by at most the limit of its format.
pub record IsLeastRoute (d : DrawingValue) (design : DesignValue) (certs : List PieceCert)
    (limit : ℕ) (moves : List Point) : Type 0 where
  pub redwork : IsLeastRedwork d design certs
  pub within : IsTrue (list_all (λ move. is_point_within limit move) moves)
