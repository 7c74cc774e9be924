-- Lemmas that this crate and those above cite.
use Rattle.std.proofs.Common.{None, Option, Some, [], arith, refl, true, ◌≡◌, ◌≤◌}
use Rattle.odd_cuts.proofs.Names.{All-nil, PieceValue, is_fitting_walk, piece_cost, walk_cost, IsValidPiece, first_fault, BoundsWalks, IsOddCut, PieceCert}

-- two are none where neither is one
pub both_none : {F : Type 0} (first rest : Option F) → first_fault first rest ≡ None → (first ≡ None) × (rest ≡ None)
both_none (Some found) rest is = absurd (cc)
both_none None rest is = (refl, is)

-- a fitting walk costs no less than the lines
pub costs_more : BoundsWalks → (p : PieceValue) (cert : PieceCert) → IsValidPiece p → is_fitting_walk p cert.walk ≡ true
    → piece_cost p ≤ walk_cost p cert.walk
costs_more bounds p cert keeps fit =
    omega (arith, bounds p [] cert.walk keeps (record { odd = All-nil (IsOddCut p); loads = λ k. λ d. λ less. omega arith }) fit)
