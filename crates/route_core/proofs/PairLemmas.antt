-- Copies for pairs, as far as they are added.
use Rattle.std.proofs.Common.{◌≡◌, ◌<◌, ℕ, zero, suc, ◌+◌, ◌^◌, List, [], ◌∷◌, length, replicate, All, arith, refl, sym, ◌∙◌, ap, subst}
use Rattle.route_core.proofs.Names.{nat_tests, All-head, All-tail, length-replicate, Pair, Edge, PieceValue, edge_cost, RowsValue, AddsPairs, IsPairOf, copies_sum, pair_costs}
use Rattle.route_core.proofs.PathLemmas.{adds_more}

-- what adds the pairs that are left has added all of them
pub record LeftPairs (p : PieceValue) (rows : RowsValue) (pairs : List Pair) (cs : List ℕ) (rest : List Pair) : Type 0 where
  pub there : All (IsPairOf rows) rest
  pub sized : length cs ≡ length p.edges
  pub few : copies_sum edge_cost p.edges cs + pair_costs rows rest < 2 ^ 32
  pub whole : (new : List ℕ) → AddsPairs p rows rest cs new → AddsPairs p rows pairs (replicate (length p.edges) 0) new

pub none_cost : (f : Edge → ℕ) (es : List Edge) (n : ℕ) → copies_sum f es (replicate n 0) ≡ 0
none_cost f [] n = refl
none_cost f (e ∷ es) zero = refl
none_cost f (e ∷ es) (suc n) = grind (arith, nat_tests, none_cost f es n)

pub begun : (p : PieceValue) (rows : RowsValue) (pairs : List Pair) (cs : List ℕ) → cs ≡ replicate (length p.edges) 0
    → All (IsPairOf rows) pairs → pair_costs rows pairs < 2 ^ 32 → LeftPairs p rows pairs cs pairs
begun p rows pairs cs is there few = grind (arith, nat_tests, length-replicate, none_cost)

pub first_pair : (rows : RowsValue) (pairs rest : List Pair) (q : Pair) → pairs ≡ q ∷ rest → All (IsPairOf rows) pairs → IsPairOf rows q
first_pair rows pairs rest q is there = All-head (IsPairOf rows) q rest (subst (λ (qs : List Pair). All (IsPairOf rows) qs) is there)

pub goes_on : (p : PieceValue) (rows : RowsValue) (pairs : List Pair) (cs next : List ℕ) (left rest : List Pair) (q : Pair)
    → left ≡ q ∷ rest → LeftPairs p rows pairs cs left → AddsPairs p rows (q ∷ []) cs next → LeftPairs p rows pairs next rest
goes_on p rows pairs cs next left rest q is l adds = record {
  there = All-tail (IsPairOf rows) q rest (subst (λ (qs : List Pair). All (IsPairOf rows) qs) is l.there);
  sized = adds.sized ∙ l.sized;
  few = omega (arith, l.few, ap (pair_costs rows) is, adds.costs);
  whole = λ new. λ more. l.whole new (subst (λ (qs : List Pair). AddsPairs p rows qs cs new) (sym is)
      (adds_more p rows q rest cs next new adds more));
}

pub ended : (p : PieceValue) (rows : RowsValue) (pairs : List Pair) (cs : List ℕ) (left : List Pair) → left ≡ []
    → LeftPairs p rows pairs cs left → AddsPairs p rows pairs (replicate (length p.edges) 0) cs
ended p rows pairs cs left is l = l.whole cs (subst (λ (qs : List Pair). AddsPairs p rows qs cs cs) (sym is) (grind (arith, nat_tests)))
