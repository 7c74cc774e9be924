-- Lemmas that this crate and those above cite.
use Rattle.std.proofs.Common.{None, Option, Some, arith, refl, true, ℕ, ◌==◌, ◌≡◌}
use Rattle.route_verdict.proofs.Names.{PieceValue, is_fitting_walk, IsValidPiece, both_none, cuts_fault, CutFaultsAreExact, WalkFaultsAreExact, first_fault, BoundsWalks, walk_fault, PieceCert, IsCorrectPieceCert, cost_above, count_reason, cuts_reason, piece_reason, retraced_reason, walk_reason, same_number, test_none, costs_more}
use Rattle.odd_cuts.specs.declared.faults.CutFault.{CutFault}
use Rattle.odd_cuts.specs.declared.faults.WalkFault.{WalkFault}
use Rattle.route_verdict.specs.declared.verdict.Reason.TheVariants as reason

pub cuts_none : (number : ℕ) (found : Option CutFault) → cuts_reason number found ≡ None → found ≡ None
cuts_none number None is = refl
cuts_none number (Some fault) is = absurd (cc)

pub walk_none : (number : ℕ) (found : Option WalkFault) → walk_reason number found ≡ None → found ≡ None
walk_none number None is = refl
walk_none number (Some fault) is = absurd (cc)

-- as many certificates as pieces
pub count_none : (found drawn : ℕ) → count_reason found drawn ≡ None → found ≡ drawn
count_none found drawn is = same_number found drawn (test_none (found == drawn) (reason.Pieces found drawn) is)

-- the certificate of a piece without a fault is correct
pub piece_correct : WalkFaultsAreExact → CutFaultsAreExact → BoundsWalks → (p : PieceValue) → IsValidPiece p → (number : ℕ)
    (cert : PieceCert) → piece_reason p number cert ≡ None → IsCorrectPieceCert p cert
piece_correct walks cuts bounds p keeps number cert none =
    let first = both_none (walk_reason number (walk_fault p cert.walk)) (first_fault
    (retraced_reason number cert.retraced (cost_above p cert)) (cuts_reason number (cuts_fault p cert.retraced cert.cuts))) none in
    let second = both_none (retraced_reason number cert.retraced (cost_above p cert))
    (cuts_reason number (cuts_fault p cert.retraced cert.cuts)) first.1 in
    let fit : is_fitting_walk p cert.walk ≡ true = (walks p cert.walk keeps).0 (walk_none number (walk_fault p cert.walk) first.0) in
    let packing = (cuts p cert.retraced cert.cuts keeps).0 (cuts_none number (cuts_fault p cert.retraced cert.cuts) second.1) in
    let said : cert.retraced ≡ cost_above p cert = same_number cert.retraced (cost_above p cert)
    (test_none (cert.retraced == cost_above p cert) (reason.Retraced number cert.retraced (cost_above p cert)) second.0) in
    record
    { fitting = fit; retraced = (omega (arith, costs_more bounds p cert keeps fit, said)); packing = packing.0; total = packing.1 }
