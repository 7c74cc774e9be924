-- A matching of the odd junctions of a piece, from a matching of places.
use Rattle.std.proofs.Common.{◌≡◌, ◌≤◌, ◌<◌, ℕ, ◌+◌, ◌*◌, ◌==◌, cond, List, [], ◌∷◌, length, get_or, All, arith, refl, sym, ◌∙◌, ap, subst}
use Rattle.route_core.proofs.Names.{All-from_get_or, All-head, All-tail, sum_by-cons, Moat, Pair, IsPerfectMatching, pair_ends_at, IsTable, entry, TableValue, PieceValue, RowsValue, IsPairOf, pair_costs, IsTableOf, AreOddRows, AreOddPairs, eq_self, get_or-le-sum_by, IsOptimalMatching, IsOddMoat, pairs_cost, moat_load}
use Rattle.route_core.proofs.LeastLemmas.{entry_is}
use Rattle.blossom_match.proofs.CallerLemmas.{ends_below}

-- how often a pair ends at a place
abbrev ends_in : ℕ → Pair → ℕ
ends_in x q = cond (x == q.a) 1 0 + cond (x == q.b) 1 0

met : (n : ℕ) → 1 ≤ cond (n == n) 1 0
met n = rw (eq_self n) (omega arith)

pairs_within : (rows : RowsValue) (pairs : List Pair) → IsPerfectMatching (length rows.terminals) pairs → All (IsPairOf rows) pairs
pairs_within rows pairs each = All-from_get_or (IsPairOf rows) pairs (record { a = 0; b = 0 })
    (λ i. λ below. let q = get_or pairs i (record { a = 0; b = 0 }) in record {
      a_in = ends_below (length rows.terminals) pairs each q.a (first q (pair_ends_at pairs q.a)
          (get_or-le-sum_by (ends_in q.a) pairs i (record { a = 0; b = 0 }) below));
      b_in = ends_below (length rows.terminals) pairs each q.b (second q (pair_ends_at pairs q.b)
          (get_or-le-sum_by (ends_in q.b) pairs i (record { a = 0; b = 0 }) below));
    })
  where
    first : (q : Pair) (k : ℕ) → ends_in q.a q ≤ k → 1 ≤ k
    first q k most = let one = met q.a in omega (arith, one, most)

    second : (q : Pair) (k : ℕ) → ends_in q.b q ≤ k → 1 ≤ k
    second q k most = let one = met q.b in omega (arith, one, most)

-- what walks between the pairs cost is what the pairs cost in the table
costs_are : (p : PieceValue) (rows : RowsValue) (t : TableValue) → IsTableOf p rows t → (pairs : List Pair) → All (IsPairOf rows) pairs
    → pair_costs rows pairs ≡ pairs_cost t pairs
costs_are p rows t table [] there = refl
costs_are p rows t table (q ∷ pairs) there =
    let here = All-head (IsPairOf rows) q pairs there in
    rw (
      costs_are p rows t table pairs (All-tail (IsPairOf rows) q pairs there),
      ← entry_is p rows t table q.a q.b (omega (arith, table.places, here.a_in)) (omega (arith, table.places, here.b_in)),
    )
    (sym (sum_by-cons (λ (q : Pair). entry t q.a q.b) q pairs))

-- a matching of the table's places is one of the odd junctions
pub is_matched : (p : PieceValue) (rows : RowsValue) (t : TableValue) → AreOddRows p rows → IsTableOf p rows t → IsTable t
    → (pairs : List Pair) (moats : List Moat) → IsOptimalMatching t pairs moats → AreOddPairs p rows pairs moats
is_matched p rows t odd_rows table is_table pairs moats m =
    let each = subst (λ (n : ℕ). IsPerfectMatching n pairs) table.places m.paired in
    let there = pairs_within rows pairs each in
    record {
      moats_are = record {
        rows_are = odd_rows.rows_are;
        terminals = odd_rows.terminals;
        odd = subst (λ (n : ℕ). All (IsOddMoat n) moats) table.places m.odd;
        laminar = m.laminar;
        loads = λ x. λ y. λ x_in. λ y_in.
            let a : x < t.places = omega (arith, table.places, x_in) in
            let b : y < t.places = omega (arith, table.places, y_in) in
            subst (λ (k : ℕ). moat_load moats x y ≤ 2 * k) (entry_is p rows t table x y a b) (m.loads x y a b);
      };
      pairs_are = there;
      each = each;
      paid = m.paid ∙ ap (λ (k : ℕ). 2 * k) (sym (costs_are p rows t table pairs there));
    }
