-- Cuts that are no packing, walks that a packing bounds, and certificates without a canonical text.
use Rattle.std.proofs.Common.{◌≡◌, ℕ, ◌+◌, ◌*◌, ◌<◌, ◌≤◌, true, false, List, [], ◌∷◌, All, None, refl, arith, sym, true≢false}
use Rattle.odd_cuts.proofs.Names.{All-cons, All-nil, Pass, PieceValue, is_fitting_walk, piece_cost, walk_cost, IsValidPiece, PieceCert, Cut, cuts_fault, total_weight, BoundsTotal, BoundsWalks, ProvesLeast, IsOddCut, IsPacking, walk_fault, IsPlainCut}
use Rattle.odd_cuts.specs.Certificates.{HasCanonicalText}
use Rattle.odd_cuts.specs.FaultTheorems.{CutFaultsAreExact, WalkFaultsAreExact}
use Rattle.odd_cuts.proofs.WalkFaultFacts.{closed}

abbrev cut : ℕ → List ℕ → Cut
cut weight members = record { weight = weight; members = members }

-- the two numbers are not the same
abbrev Differ : ℕ → ℕ → Type 0
Differ m n = m ≡ n → ⊥

-- each cut of a packing holds an odd number of odd junctions of the piece, and nothing else
pub known_even : IsPacking closed (cut 1 (1 ∷ []) ∷ cut 1 (1 ∷ 2 ∷ []) ∷ []) → ⊥
known_even packing = even (packing.odd 1 (cut 0 []) (omega arith)).odd
  where
    even : Differ 0 1
    even is = omega (arith, is)

pub known_stranger : IsOddCut closed (cut 1 (1 ∷ 4 ∷ [])) → ⊥
known_stranger is = far (is.there 1 0 (omega arith))
  where
    far : 4 < 4 → ⊥
    far is = omega (arith, is)

-- two cuts load the line of two steps with five halves, and its share is four
pub known_overload : IsPacking closed (cut 4 (1 ∷ []) ∷ cut 1 (1 ∷ []) ∷ []) → ⊥
known_overload packing = heavy (packing.loads 0 (record { a = 0; b = 0; cost = 0 }) (omega arith))
  where
    heavy : 5 ≤ 4 → ⊥
    heavy is = omega (arith, is)

-- the last line too has a limit
pub known_last_overload : IsPacking closed (cut 3 (3 ∷ []) ∷ []) → ⊥
known_last_overload packing = heavy (packing.loads 2 (record { a = 0; b = 0; cost = 0 }) (omega arith))
  where
    heavy : 3 ≤ 2 → ⊥
    heavy is = omega (arith, is)

-- a walk that costs half a step less than the bound doesn't fit
pub known_bound : BoundsWalks → (p : PieceValue) (cuts : List Cut) (walk : List Pass) → IsValidPiece p → IsPacking p cuts
    → is_fitting_walk p walk ≡ true
    → 2 * walk_cost p walk + 1 ≡ total_weight cuts + 2 * piece_cost p
    → ⊥
known_bound law p cuts walk valid packing fits is = omega (arith, law p cuts walk valid packing fits, is)

-- where the total is twice the retraced cost, no fitting walk costs a step less
pub known_proved : ProvesLeast → (p : PieceValue) (cuts : List Cut) (walk other : List Pass) → IsValidPiece p → IsPacking p cuts
    → total_weight cuts + 2 * piece_cost p ≡ 2 * walk_cost p walk → is_fitting_walk p other ≡ true
    → walk_cost p walk ≡ walk_cost p other + 1
    → ⊥
known_proved law p cuts walk other valid packing total fits is =
    omega (arith, law p cuts walk valid packing total other fits, is)

pub known_total : BoundsTotal → (p : PieceValue) (cuts : List Cut) → IsValidPiece p → IsPacking p cuts
    → total_weight cuts ≡ 2 * piece_cost p + 1
    → ⊥
known_total law p cuts valid packing is = omega (arith, law p cuts valid packing, is)

-- a check that finds no fault accepts, and what is right has no fault
pub known_walks_exact : WalkFaultsAreExact → (p : PieceValue) (walk : List Pass) → IsValidPiece p
    → (walk_fault p walk ≡ None → is_fitting_walk p walk ≡ true) × (is_fitting_walk p walk ≡ true → walk_fault p walk ≡ None)
known_walks_exact law p walk valid = (λ none. (law p walk valid).0 none, λ fits. (law p walk valid).1 fits)

pub known_cuts_exact : CutFaultsAreExact → (p : PieceValue) (retraced : ℕ) (cuts : List Cut) → IsValidPiece p
    → (cuts_fault p retraced cuts ≡ None → IsPacking p cuts × (total_weight cuts ≡ 2 * retraced))
    × (IsPacking p cuts → total_weight cuts ≡ 2 * retraced → cuts_fault p retraced cuts ≡ None)
known_cuts_exact law p retraced cuts valid =
    (λ none. (law p retraced cuts valid).0 none, λ packing total. (law p retraced cuts valid).1 (packing, total))

-- a certificate of one pass and one cut
abbrev cert : ℕ → Cut → PieceCert
cert line c = record { retraced = 0; walk = record { line = line; back = true } ∷ []; cuts = c ∷ [] }

-- a text has a pass, and no line or junction whose number needs more than 32 bits
pub known_no_pass : HasCanonicalText (record { retraced = 0; walk = []; cuts = [] }) → ⊥
known_no_pass has = has.some refl

pub known_line : HasCanonicalText (cert 4294967295 (cut 1 [])) → ⊥
known_line has = far (has.passes 0 (record { line = 0; back = false }) (omega arith))
  where
    far : 4294967296 < 4294967296 → ⊥
    far is = omega (arith, is)

pub known_member : HasCanonicalText (cert 0 (cut 1 (4294967295 ∷ []))) → ⊥
known_member has = far (has.members 0 (cut 0 []) (omega arith) 0 0 (omega arith))
  where
    far : 4294967296 < 4294967296 → ⊥
    far is = omega (arith, is)

pub known_weightless : HasCanonicalText (cert 0 (cut 0 (1 ∷ []))) → ⊥
known_weightless has = none (has.plain 0 (cut 0 []) (omega arith)).heavy
  where
    none : 1 ≤ 0 → ⊥
    none is = omega (arith, is)

pub known_falling : HasCanonicalText (cert 0 (cut 1 (2 ∷ 1 ∷ []))) → ⊥
known_falling has = true≢false (sym (has.plain 0 (cut 0 []) (omega arith)).rising)

-- the greatest line and junction, and the least weight, have a text
abbrev greatest : Cut
greatest = cut 1 (0 ∷ 4294967294 ∷ [])

pub known_greatest : HasCanonicalText (cert 4294967294 greatest)
known_greatest = record {
  some = λ is. cc;
  passes = All-cons (λ (pass : Pass). pass.line + 1 < 4294967296) _ [] (omega arith)
      (All-nil (λ (pass : Pass). pass.line + 1 < 4294967296));
  plain = All-cons IsPlainCut greatest [] (record { heavy = omega arith; rising = refl }) (All-nil IsPlainCut);
  members = All-cons (λ (c : Cut). All (λ j. j + 1 < 4294967296) c.members) greatest []
      (All-cons (λ j. j + 1 < 4294967296) 0 (4294967294 ∷ []) (omega arith)
      (All-cons (λ j. j + 1 < 4294967296) 4294967294 [] (omega arith) (All-nil (λ j. j + 1 < 4294967296))))
      (All-nil (λ (c : Cut). All (λ j. j + 1 < 4294967296) c.members));
}
