-- Moats that pass all plain checks can be lifted.
use Rattle.std.proofs.Common.{◌≡◌, ℕ, List, length, All, AllPairs, sym, ◌∙◌, subst}
use Rattle.blossom_match.specs.declared.matching.Moat.{Moat}
use Rattle.blossom_match.specs.Matchings.{AreLaminar, IsOddMoat}
use Rattle.line_graph.specs.PieceGraphs.{PieceValue, odd_junctions}
use Rattle.odd_paths.specs.LeastRows.{AreRows, RowsValue}
use Rattle.cut_certificate.specs.Lifts.{AreLiftableMoats}
use Rattle.route_tests.specs.MoatLoads.{KeepsLoads}

-- moats that pass all plain checks
pub moats_are : (p : PieceValue) (rows : RowsValue) (moats seen : List Moat) (terminals : List ℕ) → AreRows p rows
    → rows.terminals ≡ terminals → terminals ≡ odd_junctions p → seen ≡ moats → All (IsOddMoat (length terminals)) seen
    → AllPairs AreLaminar seen → KeepsLoads rows terminals seen → AreLiftableMoats p rows moats
moats_are p rows moats seen terminals are same odds is odd laminar loads = subst (λ (ms : List Moat). AreLiftableMoats p rows ms) is
    (record {
      rows_are = are;
      terminals = same ∙ odds;
      odd = subst (λ (ts : List ℕ). All (IsOddMoat (length ts)) seen) (sym same) odd;
      laminar = laminar;
      loads = subst (λ (ts : List ℕ). KeepsLoads rows ts seen) (sym same) loads;
    })
