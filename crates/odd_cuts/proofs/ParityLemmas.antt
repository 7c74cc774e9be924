-- The parities of junctions give the number of odd ones that a cut holds.
use Rattle.std.proofs.Common.{◌≡◌, ◌≤◌, ℕ, zero, suc, ◌+◌, Bool, true, false, List, [], ◌∷◌, ◌++◌, Option, Some, None, length, get_or, arith, refl, sym, ◌∙◌, ap}
use Rattle.odd_cuts.proofs.Names.{nat_tests, Cut, odd_among, parities_from, cut_fault, stranger_fault, has_member, odd_held, Edge, MAX_LINES, IsValidPiece, PieceValue, edges_with_closing, closing_edge, degree, degrees_from, given_start, is_odd, given_end, degrees_few, AreMemberFlags, degree_closed}
use Rattle.odd_cuts.specs.declared.faults.CutFault.TheVariants as fault
use Rattle.odd_cuts.proofs.Degrees.{odd_counted, odd_in}

odds_told : (set : ℕ → Bool) (from to : Option ℕ) (es : List Edge) (at n : ℕ)
    → odd_among set at (parities_from from to at (degrees_from es at n)) ≡ odd_in set at (degrees_from (closing_edge from to ++ es) at n)
odds_told set from to es at zero = refl
odds_told set from to es at (suc n) = rw (degree_closed from to es at, odds_told set from to es (at + 1) n) refl

-- the parities of a piece give the number of odd junctions in a set
odds_held : (p : PieceValue) (members : List ℕ) → IsValidPiece p
    → odd_among (has_member members) 0 (parities_from (given_start p) (given_end p) 0 p.degrees) ≡ odd_held p members
odds_held p members keeps =
    ap (λ degrees. odd_among (has_member members) 0 (parities_from (given_start p) (given_end p) 0 degrees)) keeps.counted
    ∙ odds_told (has_member members) (given_start p) (given_end p) p.edges 0 (length p.junctions)
    ∙ sym (odd_counted (has_member members) (edges_with_closing p) 0 (length p.junctions))

-- and a table of the members does for them
among_held : (members : List ℕ) (held parities : List Bool) (at : ℕ) → AreMemberFlags members held → at + length parities ≤ MAX_LINES + 1
    → odd_among (λ j. get_or held j false) at parities ≡ odd_among (has_member members) at parities
among_held members held [] at are few = refl
among_held members held (odd ∷ rest) at are few =
    rw (are at (omega (arith, few)), among_held members held rest (at + 1) are (omega (arith, few))) refl

length-parities_from : (from to : Option ℕ) (at : ℕ) (degrees : List ℕ) → length (parities_from from to at degrees) ≡ length degrees
length-parities_from from to at [] = refl
length-parities_from from to at (degree ∷ rest) = omega (arith, length-parities_from from to (at + 1) rest)

-- the parities of a piece are few
pub parities_few : (p : PieceValue) (parities : List Bool) → IsValidPiece p
    → parities ≡ parities_from (given_start p) (given_end p) 0 p.degrees → length parities ≤ MAX_LINES + 1
parities_few p parities keeps are = grind (arith, nat_tests, length-parities_from, degrees_few)

-- the count over the two tables is that of odd junctions that the cut holds
pub count_told : (p : PieceValue) (members : List ℕ) (held parities : List Bool) (odd : ℕ) → IsValidPiece p → AreMemberFlags members held
    → parities ≡ parities_from (given_start p) (given_end p) 0 p.degrees → odd ≡ odd_among (λ j. get_or held j false) 0 parities
    → odd ≡ odd_held p members
count_told p members held parities odd keeps are parities_are counted =
    counted ∙ among_held members held parities 0 are (omega (arith, parities_few p parities keeps parities_are))
    ∙ ap (λ parities. odd_among (has_member members) 0 parities) parities_are ∙ odds_held p members keeps

-- a cut of junctions that holds an odd number of odd ones has no fault
pub cut_right : (p : PieceValue) (number : ℕ) (cut : Cut) (odd : ℕ) → stranger_fault (length p.junctions) number cut.members ≡ None
    → odd ≡ odd_held p cut.members → is_odd odd ≡ true → cut_fault p number cut ≡ None
cut_right p number cut odd none same is = cc

-- one that holds an even number of them has that fault
pub cut_even : (p : PieceValue) (number : ℕ) (cut : Cut) (odd : ℕ) → stranger_fault (length p.junctions) number cut.members ≡ None
    → odd ≡ odd_held p cut.members → is_odd odd ≡ false → cut_fault p number cut ≡ Some (fault.EvenCut number odd)
cut_even p number cut odd none same is = cc
