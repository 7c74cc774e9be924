-- The total of a packing is at most twice the cost of the lines, since each odd cut is crossed by a line.
use Rattle.std.proofs.Common.{◌≡◌, ◌≤◌, ◌<◌, ℕ, zero, suc, ◌+◌, ◌%◌, Bool, true, false, List, [], ◌∷◌, length, arith, refl, ◌∙◌, ap}
use Rattle.odd_cuts.proofs.Names.{nat_tests, Edge, IsValidPiece, PieceValue, edges_with_closing, degrees_from, edge_cost, edge_sum, Cut, BoundsTotal, has_member, IsOddCut, odd_held, NoEdgeLeaves}
use Rattle.odd_cuts.proofs.Crossing.{crossing}
use Rattle.odd_cuts.proofs.Degrees.{odd_counted, odd_crossing, odd_in}
use Rattle.odd_cuts.proofs.Duality.{loads_cost, total_loads}
use Rattle.odd_cuts.proofs.Sums.{weigh}

abbrev once : ℕ → ℕ
once n = 1

weigh_once : (ns : List ℕ) (es : List Edge) (f : Edge → ℕ) → length ns ≡ length es → weigh ns es once f ≡ edge_sum f es
weigh_once [] [] f same = refl
weigh_once [] (e ∷ es) f same = absurd (omega arith)
weigh_once (n ∷ ns) [] f same = absurd (omega arith)
weigh_once (n ∷ ns) (e ∷ es) f same = grind (arith, nat_tests, weigh_once ns es f (omega arith))

none_leaves : (s : ℕ → Bool) (es : List Edge) → edge_sum (crossing s) es ≡ 0 → NoEdgeLeaves es s
none_leaves s [] none i e at = absurd (cc)
none_leaves s (x ∷ es) none zero e at = grind (arith, nat_tests)
none_leaves s (x ∷ es) none (suc i) e at = none_leaves s es (omega arith) i e at

-- sets that agree on a range have the same odd junctions there
agree : (s u : ℕ → Bool) (es : List Edge) (at n : ℕ) → ((j : ℕ) → at ≤ j → j < at + n → s j ≡ u j)
    → odd_in s at (degrees_from es at n) ≡ odd_in u at (degrees_from es at n)
agree s u es at zero same = refl
agree s u es at (suc n) same =
    let first : s at ≡ u at = same at (omega arith) (omega arith) in
    rw (first, agree s u es (at + 1) n (λ j. λ from. λ to. same j (omega arith) (omega arith))) refl

none_odd : (ds : List ℕ) (at : ℕ) → odd_in (λ j. false) at ds ≡ 0
none_odd [] at = refl
none_odd (d ∷ ds) at = rw (none_odd ds (at + 1)) refl

never_crossed : (es : List Edge) → edge_sum (crossing (λ j. true)) es ≡ 0
never_crossed [] = refl
never_crossed (e ∷ es) = rw (never_crossed es) refl

-- all or none of the odd junctions are an even number
constant_even : (p : PieceValue) → IsValidPiece p → (t : Bool)
    → odd_in (λ j. t) 0 (degrees_from (edges_with_closing p) 0 (length p.junctions)) % 2 ≡ 0
constant_even p kept true = odd_crossing (λ j. true) (edges_with_closing p) (length p.junctions) (grind (arith, nat_tests))
    ∙ ap (λ (k : ℕ). k % 2) (never_crossed (edges_with_closing p))
constant_even p kept false = ap (λ (k : ℕ). k % 2) (none_odd (degrees_from (edges_with_closing p) 0 (length p.junctions)) 0)

crossed_once : (p : PieceValue) → IsValidPiece p → (c : Cut) → IsOddCut p c → 1 ≤ edge_sum (crossing (has_member c.members)) p.edges
crossed_once p kept c odd = by_sum (edge_sum (crossing s) p.edges) refl
  where
    s : ℕ → Bool
    s = has_member c.members

    even : edge_sum (crossing (has_member c.members)) p.edges ≡ 0 → odd_held p c.members % 2 ≡ 0
    even none =
        ap (λ (k : ℕ). k % 2) (odd_counted (has_member c.members) (edges_with_closing p) 0 (length p.junctions)
        ∙ agree (has_member c.members) (λ j. has_member c.members 0) (edges_with_closing p) 0 (length p.junctions)
        (λ j. λ from. λ to. kept.joined (has_member c.members) (none_leaves (has_member c.members) p.edges none) j 0 (omega arith)
        (omega arith)))
        ∙ constant_even p kept (has_member c.members 0)

    by_sum : (k : ℕ) → edge_sum (crossing (has_member c.members)) p.edges ≡ k → 1 ≤ edge_sum (crossing (has_member c.members)) p.edges
    by_sum zero is = absurd (clash (odd_held p c.members % 2) odd.odd (even is))
      where
        clash : (k : ℕ) → k ≡ 1 → k ≡ 0 → ⊥
        clash k one none = omega arith
    by_sum (suc k) is = omega arith

pub keeps_total : BoundsTotal
keeps_total p cuts kept packing =
    let most = total_loads p.lines p.edges once p cuts packing.odd (λ c. λ odd. rw
    (weigh_once p.lines p.edges (crossing (has_member c.members)) kept.beside) (crossed_once p kept c odd)) in
    omega (arith, most, loads_cost p.lines p.edges once cuts packing.loads, weigh_once p.lines p.edges edge_cost kept.beside)
