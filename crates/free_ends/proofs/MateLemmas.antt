-- A pair taken out of a matching, by one of its places.
use Rattle.std.proofs.Common.{◌≡◌, ◌≤◌, ℕ, ◌+◌, ◌==◌, inl, inr, Bool, true, false, cond, List, [], ◌∷◌, arith, refl, sym, ◌∙◌, ap}
use Rattle.free_ends.proofs.Names.{cases_eq, eq-eqb, unequal, Pair, TableValue, entry, entry-comm, mate_of, one_if, pair_ends_at, pairs_cost}
use Rattle.free_ends.proofs.PairLemmas.{pair_ends-cons, pairs_cost-cons}

-- 1 for true, and 0 for false, as pairs count their ends
end_one : (t : Bool) → cond t 1 0 ≡ one_if t
end_one true = refl
end_one false = refl

-- the ends of a pair and of those after it
pub ends_cons : (x : ℕ) (q : Pair) (qs : List Pair)
    → pair_ends_at (q ∷ qs) x ≡ (one_if (x == q.a) + one_if (x == q.b)) + pair_ends_at qs x
ends_cons x q qs = pair_ends-cons x q qs ∙ rw (end_one (x == q.a), end_one (x == q.b)) refl

-- a pair with its place and the place that this is matched with, and the other pairs
pub record TakenPair (t : TableValue) (place : ℕ) (pairs : List Pair) : Type 0 where
  pub rest : List Pair
  pub ends : (x : ℕ) → pair_ends_at pairs x ≡ (one_if (x == place) + one_if (x == mate_of place pairs)) + pair_ends_at rest x
  pub costs : pairs_cost t pairs ≡ entry t place (mate_of place pairs) + pairs_cost t rest
  pub others : (y : ℕ) → (y ≡ place → ⊥) → (y ≡ mate_of place pairs → ⊥) → mate_of y rest ≡ mate_of y pairs

pub take_pair : (t : TableValue) (place : ℕ) (pairs : List Pair) → 1 ≤ pair_ends_at pairs place → TakenPair t place pairs
take_pair t place [] some = absurd (omega (arith, some))
take_pair t place (q ∷ qs) some = elim (cases_eq q.a place) [
  | inl is ↦
      let mate : mate_of place (q ∷ qs) ≡ q.b = rw (eq-eqb q.a place is) refl in
      record {
        rest = qs;
        ends = λ x. ends_cons x q qs ∙ rw (mate, is) refl;
        costs = pairs_cost-cons t q qs ∙ rw (mate, is) refl;
        others = λ y apart aside. sym (missed y (λ same. apart (sym same ∙ is)) (λ same. aside (sym same ∙ sym mate)));
      }
  | inr other ↦ elim (cases_eq q.b place) [
    | inl is ↦
        let mate : mate_of place (q ∷ qs) ≡ q.a = rw (unequal q.a place other, eq-eqb q.b place is) refl in
        record {
          rest = qs;
          ends = λ x. ends_cons x q qs ∙ rw (mate, is) (turned (one_if (x == q.a)) (one_if (x == place)) (pair_ends_at qs x));
          costs = pairs_cost-cons t q qs ∙ rw (mate, is) (ap (λ (k : ℕ). k + pairs_cost t qs) (entry-comm t q.a place));
          others = λ y apart aside. sym (missed y (λ same. aside (sym same ∙ sym mate)) (λ same. apart (sym same ∙ is)));
        }
    | inr aside ↦
        let mate : mate_of place (q ∷ qs) ≡ mate_of place qs = rw (unequal q.a place other, unequal q.b place aside) refl in
        let none_a : one_if (place == q.a) ≡ 0 = ap one_if (unequal place q.a (λ same. other (sym same))) in
        let none_b : one_if (place == q.b) ≡ 0 = ap one_if (unequal place q.b (λ same. aside (sym same))) in
        let r = take_pair t place qs (omega (arith, some, ends_cons place q qs, none_a, none_b)) in
        record {
          rest = q ∷ r.rest;
          ends = λ x. rw mate (omega (arith, ends_cons x q qs, ends_cons x q r.rest, r.ends x));
          costs = rw mate (omega (arith, pairs_cost-cons t q qs, pairs_cost-cons t q r.rest, r.costs));
          others = λ y apart beyond. ap (λ (k : ℕ). cond (q.a == y) q.b (cond (q.b == y) q.a k))
              (r.others y apart (λ same. beyond (same ∙ sym mate)));
        }
  ]
]
  where
    missed : (y : ℕ) → (q.a ≡ y → ⊥) → (q.b ≡ y → ⊥) → mate_of y (q ∷ qs) ≡ mate_of y qs
    missed y apart aside = rw (unequal q.a y apart, unequal q.b y aside) refl

    turned : (a b c : ℕ) → (a + b) + c ≡ (b + a) + c
    turned a b c = omega arith
