-- The verdict on a design without acts has the first fault of the certificate.
use Rattle.std.proofs.Common.{◌≡◌, ℕ, ◌+◌, List, [], ◌∷◌, Option, Some, None, arith, length, refl, ap, sym, ◌∙◌, map}
use Rattle.drawing_picture.proofs.Names.{nat_tests, PieceCert, DesignValue, IsFirstFault, DrawingValue, PieceValue, piece_graph, count_reason, piece_reason, pieces_reason, reason_before_acts, IsVerdict, acts_reason, difference_of, verdict_of_reason}
use Rattle.odd_cuts.specs.Faults.{first_fault}
use Rattle.route_verdict.specs.declared.verdict.Reason.{Reason}
use Rattle.route_verdict.specs.declared.verdict.Verdict.{Verdict}

-- a reason that is no act of the design, if any
abbrev IsEarly : Option Reason → Type 0
IsEarly found = reason_before_acts (verdict_of_reason found) ≡ found

count_early : (found drawn : ℕ) → IsEarly (count_reason found drawn)
count_early found drawn = grind (arith, nat_tests)

both_early : (first rest : Option Reason) → IsEarly first → IsEarly rest → IsEarly (first_fault first rest)
both_early None rest one other = other
both_early (Some found) rest one other = one

pieces_early : (number : ℕ) (pieces : List PieceValue) (certs : List PieceCert) → IsEarly (pieces_reason number pieces certs)
pieces_early number [] certs = refl
pieces_early number (p ∷ pieces) [] = refl
pieces_early number (p ∷ pieces) (cert ∷ certs) = both_early (piece_reason p number cert) (pieces_reason (number + 1) pieces certs)
    (grind (arith, nat_tests)) (pieces_early (number + 1) pieces certs)

-- early reasons are found before the acts
found_before : (first second : Option Reason) (number : Option ℕ) → IsEarly first → IsEarly second
    → reason_before_acts (verdict_of_reason (first_fault first (first_fault second (acts_reason number)))) ≡ first_fault first second
found_before (Some found) second number one other = one
found_before None (Some found) number one other = other
found_before None None None one other = refl
found_before None None (Some number) one other = refl

-- The reason of a verdict before the acts is the first fault of the certificates.
pub first_fault_is : (d : DrawingValue) (design : DesignValue) (certs : List PieceCert) (given : Verdict) (found : Option Reason)
    → IsVerdict d design certs given → found ≡ reason_before_acts given → IsFirstFault d certs found
first_fault_is d design certs given found verdict is =
    let pieces : List PieceValue = map (piece_graph d) verdict.pieces in
    record {
      pieces = verdict.pieces;
      pieces_are = verdict.is.pieces_are;
      is = sym (found_before (count_reason (length certs) (length pieces)) (pieces_reason 1 pieces certs) (difference_of d design certs)
          (count_early (length certs) (length pieces)) (pieces_early 1 pieces certs))
          ∙ ap reason_before_acts (sym verdict.is.is) ∙ sym is;
    }
