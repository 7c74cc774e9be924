-- The check of cuts accepts exactly the packings with the total that is needed.
use Rattle.std.proofs.Common.{◌≡◌, ◌<◌, ℕ, ◌+◌, ◌*◌, ◌==◌, Bool, true, false, cond, nat_lt, nat_le, List, [], ◌∷◌, length, All, Some, None, Result, Ok, Err, IsOk, arith, refl}
use Rattle.odd_cuts.proofs.Names.{nat_tests, All-cons, All-head, All-nil, All-tail, Edge, IsValidPiece, PieceValue, Cut, CutFault, cut_fault, cut_faults, cuts_fault, load_faults, stranger_fault, total_fault, load_on, total_weight, ReportsFault, first_fault, IsOddCut, IsPacking, load_fault, test_none}
use Rattle.odd_cuts.specs.declared.faults.CutFault.TheVariants as fault
use Rattle.odd_cuts.proofs.Duality.{Fits}
use Rattle.odd_cuts.proofs.CallerLemmas.{both_none}

-- all members are junctions where none is a stranger
members_right : (count number : ℕ) (members : List ℕ) → stranger_fault count number members ≡ None → All (λ j. j < count) members
members_right count number [] is = All-nil (λ j. j < count)
members_right count number (j ∷ members) is = by_test (nat_lt j count) refl is (λ h. members_right count number members h)
  where
    less : (m n : ℕ) → nat_lt m n ≡ true → m < n
    less m n h = grind (arith, nat_tests)

    by_test : (t : Bool) → nat_lt j count ≡ t → cond t (stranger_fault count number members) (Some (fault.Stranger number (j + 1))) ≡ None
        → (stranger_fault count number members ≡ None → All (λ j. j < count) members) → All (λ j. j < count) (j ∷ members)
    by_test true there is rest = All-cons (λ j. j < count) j members (less j count there) (rest is)
    by_test false there is rest = absurd (cc)

no_stranger : (count number : ℕ) (members : List ℕ) → All (λ j. j < count) members → stranger_fault count number members ≡ None
no_stranger count number [] are = refl
no_stranger count number (j ∷ members) are =
    let there : nat_lt j count ≡ true = grind (arith, nat_tests, All-head (λ j. j < count) j members are) in
    rw (there, no_stranger count number members (All-tail (λ j. j < count) j members are)) refl

cut_right : (p : PieceValue) (number : ℕ) (cut : Cut) → cut_fault p number cut ≡ None → IsOddCut p cut
cut_right p number cut is = grind (arith, nat_tests, both_none, members_right, test_none)

no_cut_fault : (p : PieceValue) (number : ℕ) (cut : Cut) → IsOddCut p cut → cut_fault p number cut ≡ None
no_cut_fault p number cut is = grind (arith, nat_tests, no_stranger)

-- each cut is odd where none has a fault
cuts_right : (p : PieceValue) (number : ℕ) (cuts : List Cut) → cut_faults p number cuts ≡ None → All (IsOddCut p) cuts
cuts_right p number [] is = All-nil (IsOddCut p)
cuts_right p number (cut ∷ rest) is =
    let parts = both_none (cut_fault p number cut) (cut_faults p (number + 1) rest) is in
    All-cons (IsOddCut p) cut rest (cut_right p number cut parts.0) (cuts_right p (number + 1) rest parts.1)

no_cut_faults : (p : PieceValue) (number : ℕ) (cuts : List Cut) → All (IsOddCut p) cuts → cut_faults p number cuts ≡ None
no_cut_faults p number [] are = refl
no_cut_faults p number (cut ∷ rest) are =
    rw (
      no_cut_fault p number cut (All-head (IsOddCut p) cut rest are),
      no_cut_faults p (number + 1) rest (All-tail (IsOddCut p) cut rest are),
    ) refl

-- each edge carries no more than it may, where no load has a fault
loads_right : (cuts : List Cut) (ns : List ℕ) (es : List Edge) → length ns ≡ length es → load_faults cuts ns es ≡ None → All (Fits cuts) es
loads_right cuts [] [] beside is = All-nil (Fits cuts)
loads_right cuts [] (e ∷ es) beside is = absurd (omega (arith, beside))
loads_right cuts (n ∷ ns) [] beside is = absurd (omega (arith, beside))
loads_right cuts (n ∷ ns) (e ∷ es) beside is =
    let parts = both_none (load_fault n (load_on cuts e) e.cost) (load_faults cuts ns es) is in
    All-cons (Fits cuts) e es (grind (
      arith,
      nat_tests,
      test_none (nat_le (load_on cuts e) (2 * e.cost))
          (fault.Overload (n + 1) (load_on cuts e) (2 * e.cost)) parts.0,
    )) (loads_right cuts ns es (omega (arith, beside)) parts.1)

no_load_faults : (cuts : List Cut) (ns : List ℕ) (es : List Edge) → All (Fits cuts) es → load_faults cuts ns es ≡ None
no_load_faults cuts [] es fit = refl
no_load_faults cuts (n ∷ ns) [] fit = refl
no_load_faults cuts (n ∷ ns) (e ∷ es) fit =
    let here : nat_le (load_on cuts e) (2 * e.cost) ≡ true = grind (arith, nat_tests, All-head (Fits cuts) e es fit) in
    rw (here, no_load_faults cuts ns es (All-tail (Fits cuts) e es fit)) refl

-- cuts without a fault are a packing with that total
packing_right : (p : PieceValue) (retraced : ℕ) (cuts : List Cut) → length p.lines ≡ length p.edges
    → cuts_fault p retraced cuts ≡ None → IsPacking p cuts × (total_weight cuts ≡ 2 * retraced)
packing_right p retraced cuts beside is =
    let odd = both_none (cut_faults p 1 cuts)
    (first_fault (load_faults cuts p.lines p.edges) (total_fault (total_weight cuts) (2 * retraced))) is in
    let loads = both_none (load_faults cuts p.lines p.edges) (total_fault (total_weight cuts) (2 * retraced)) odd.1 in (
      record { odd = cuts_right p 1 cuts odd.0; loads = loads_right cuts p.lines p.edges beside loads.0 },
      grind (
        arith,
        nat_tests,
        test_none (total_weight cuts == 2 * retraced) (fault.Total (total_weight cuts) (2 * retraced)) loads.1,
      ),
    )

-- so the check answers right exactly there
pub exact_cuts : {T : Type 0} (p : PieceValue) (retraced : ℕ) (cuts : List Cut) (r : Result T CutFault) → length p.lines ≡ length p.edges
    → ReportsFault (cuts_fault p retraced cuts) r
    → (IsOk r → IsPacking p cuts × (total_weight cuts ≡ 2 * retraced)) × (IsPacking p cuts × (total_weight cuts ≡ 2 * retraced) → IsOk r)
exact_cuts p retraced cuts (Ok x) beside is = (λ ok. packing_right p retraced cuts beside is, λ are. refl)
exact_cuts p retraced cuts (Err found) beside is = grind (arith, nat_tests, no_cut_faults, no_load_faults)

-- no fault is found exactly where the cuts are a packing with that total
pub cuts_exact : (p : PieceValue) (retraced : ℕ) (cuts : List Cut) → IsValidPiece p
    → (cuts_fault p retraced cuts ≡ None → IsPacking p cuts × (total_weight cuts ≡ 2 * retraced))
    × (IsPacking p cuts × (total_weight cuts ≡ 2 * retraced) → cuts_fault p retraced cuts ≡ None)
cuts_exact p retraced cuts keeps = grind (arith, nat_tests, packing_right, no_cut_faults, no_load_faults)
