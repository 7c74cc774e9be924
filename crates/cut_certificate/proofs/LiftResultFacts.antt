-- What lifted moats exclude.
use Rattle.std.proofs.Common.{◌≡◌, ℕ, ◌+◌, ◌*◌, ◌<◌, List, length, All, arith}
use Rattle.std.specs.List.{AllPairs}
use Rattle.cut_certificate.proofs.Names.{Moat, AreLaminar, IsOddMoat, moat_load, width_of, PieceValue, Cut, total_weight, IsPlainCut, RowsValue, cost_at, terminal_of, AreLiftableMoats, IsLifted, odd_junctions, IsPacking}
use Rattle.odd_paths.specs.LeastRows.{AreRows}

-- lifted cuts are a packing of plain cuts with the width of the moats as their total, three for each junction at most
pub known_lifted : (p : PieceValue) (moats : List Moat) (cuts : List Cut) → IsLifted p moats cuts
    → IsPacking p cuts × All IsPlainCut cuts × (total_weight cuts + 1 ≡ width_of moats → ⊥) × (total_weight cuts ≡ width_of moats + 1 → ⊥)
    × (length cuts ≡ 3 * length p.junctions + 1 → ⊥)
known_lifted p moats cuts is = (
  is.packing,
  is.plain,
  λ less. omega (arith, less, is.total),
  λ more. omega (arith, more, is.total),
  λ many. omega (arith, many, is.few),
)

-- moats over the odd junctions that load two of them by one half too many can't be lifted
pub known_overload : (p : PieceValue) (rows : RowsValue) (moats : List Moat) (t u : ℕ) → AreLiftableMoats p rows moats
    → t < length rows.terminals → u < length rows.terminals
    → moat_load moats t u ≡ 2 * cost_at rows t (terminal_of rows u) + 1
    → ⊥
known_overload p rows moats t u are there below more = omega (arith, more, are.loads t u there below)

pub known_moats : (p : PieceValue) (rows : RowsValue) (moats : List Moat) → AreLiftableMoats p rows moats
    → AreRows p rows × (rows.terminals ≡ odd_junctions p) × All (IsOddMoat (length rows.terminals)) moats × AllPairs AreLaminar moats
known_moats p rows moats are = (are.rows_are, are.terminals, are.odd, are.laminar)
