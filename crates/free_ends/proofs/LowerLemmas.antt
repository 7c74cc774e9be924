-- No walk over all lines costs less than the best matching lets one expect, wherever it starts and ends.
use Rattle.std.proofs.Common.{◌≡◌, ◌≤◌, ◌<◌, ℕ, ◌+◌, ◌-◌, ◌*◌, ◌%◌, ◌==◌, ◌⊎◌, inl, inr, Bool, true, false, cond, nat_le, nat_lt, ◌&&◌, List, [], ◌∷◌, Some, Contains, length, slice_index, arith, refl, sym, ◌∙◌, ap, subst}
use Rattle.free_ends.proofs.Names.{nat_tests, both_ways, cases_eq, cases_lt, eq-eqb, get_or_default, le-ltb, lt-ltb, some_same, unequal, FREE_DISTANCE, IsOptimalMatching, IsPerfectMatching, IsValidPiece, Moat, NoneCostsLess, Pair, Pass, PieceValue, RowsValue, TableValue, covers, degree, edge_cost, odd_junctions, one_if, pair_ends_at, pairs_cost, piece_cost, terminal_of, walk_cost, walk_end_from}
use Rattle.free_ends.proofs.ExtraLemmas.{Extra, extra, pass_link_costs, pass_link_ends, pass_links, pass_links_near, walk_known}
use Rattle.free_ends.proofs.LinkLemmas.{AreNear, Link, link_costs, link_ends, match_links}
use Rattle.free_ends.proofs.OddLemmas.{degree_none, odd_degree, odd_place}
use Rattle.free_ends.proofs.PairLemmas.{pairs_of}
use Rattle.free_ends.proofs.PassLemmas.{Step, beside_of, degree_sum, ends_at, first_step, walk_even}
use Rattle.free_ends.proofs.SpotLemmas.{IsEndTable, are_spots, edge_at, ends_there, free_near, line_near, place_count, pot, spot, spot_free, spot_terminal, terminal_there}

-- a step joins junctions
pub step_within : (p : PieceValue) → IsValidPiece p → (q : Pass) (at next : ℕ) → Step p.lines p.edges q at next
    → (at < length p.junctions) × (next < length p.junctions)
step_within p kept q at next s = go q.back refl
  where
    ends : (s.edge.a < length p.junctions) × (s.edge.b < length p.junctions)
    ends = let k = edge_at p.lines p.edges q.line s.edge s.found in ends_there (length p.junctions) p.edges k.0 s.edge kept.ends k.1

    go : (back : Bool) → q.back ≡ back → (at < length p.junctions) × (next < length p.junctions)
    go true is = (
      subst (λ (x : ℕ). x < length p.junctions) (rw is at s.from) ends.1,
      subst (λ (x : ℕ). x < length p.junctions) (rw is at s.to) ends.0,
    )
    go false is = (
      subst (λ (x : ℕ). x < length p.junctions) (rw is at s.from) ends.0,
      subst (λ (x : ℕ). x < length p.junctions) (rw is at s.to) ends.1,
    )

-- a walk with a pass leads from a junction to a junction
pub walk_within : (p : PieceValue) → IsValidPiece p → (q : Pass) (qs : List Pass) (at to : ℕ)
    → walk_end_from p.lines p.edges (Some at) (q ∷ qs) ≡ Some to → (at < length p.junctions) × (to < length p.junctions)
walk_within p kept q [] at to is =
    let n = first_step p.lines p.edges q [] at to is in
    let s = step_within p kept q at n.0 n.1 in
    (s.0, subst (λ (x : ℕ). x < length p.junctions) (some_same n.0 to n.2) s.1)
walk_within p kept q (r ∷ qs) at to is =
    let n = first_step p.lines p.edges q (r ∷ qs) at to is in
    ((step_within p kept q at n.0 n.1).0, (walk_within p kept r qs n.0 to n.2).1)

-- a walk that covers a piece has a pass
pub covering_some : (p : PieceValue) → IsValidPiece p → covers p.lines [] ≡ true → ⊥
covering_some p kept all = go p.lines kept.some all
  where
    go : (ns : List ℕ) → 1 ≤ length ns → covers ns [] ≡ true → ⊥
    go [] some all = omega (arith, some)
    go (n ∷ ns) some all = both_ways false refl all

pub covering_within : (p : PieceValue) → IsValidPiece p → (walk : List Pass) (at to : ℕ)
    → walk_end_from p.lines p.edges (Some at) walk ≡ Some to → covers p.lines walk ≡ true
    → (at < length p.junctions) × (to < length p.junctions)
covering_within p kept [] at to is all = absurd (covering_some p kept all)
covering_within p kept (q ∷ qs) at to is all = walk_within p kept q qs at to is

module _ (p : PieceValue) (rows : RowsValue) (t : TableValue) (is : IsEndTable p rows t) where
  -- the links of the passes beyond one of each line, and one from each end of the walk to a free end
  abbrev walk_links : (from to : ℕ) → List Pass → List Link
  walk_links from to rest = record { a = from; b = length p.junctions; cost = FREE_DISTANCE }
      ∷ record { a = to; b = length p.junctions + 1; cost = FREE_DISTANCE } ∷ pass_links p.lines p.edges rest

  -- 1 at the nodes of free ends
  abbrev free_at : ℕ → ℕ
  free_at v = one_if (nat_le (length p.junctions) v && nat_lt (v + length rows.terminals) (t.places + length p.junctions))

  free_here : (v : ℕ) → length p.junctions ≤ v → v + length rows.terminals < t.places + length p.junctions → free_at v ≡ 1
  free_here v over under = grind (arith, nat_tests, over, under)

  not_before : (v : ℕ) → v < length p.junctions → free_at v ≡ 0
  not_before v low = grind (arith, nat_tests, low)

  not_after : (v : ℕ) → t.places + length p.junctions ≤ v + length rows.terminals → free_at v ≡ 0
  not_after v over = grind (arith, nat_tests, over)

  -- the number of ends that they have is odd at the odd junctions and at the free ends
  abbrev IsOddAt : List Link → ℕ → Type 0
  IsOddAt ls v = (link_ends v ls + (degree p.edges v + free_at v)) % 2 ≡ 0

  -- the passes beyond one of each line have an odd number of ends at the odd junctions, but for the walk's own ends
  extra_odd : (from to : ℕ) (walk : List Pass) (e : Extra p.lines p.edges p.edges walk)
      → walk_end_from p.lines p.edges (Some from) walk ≡ Some to → (v : ℕ)
      → (((link_ends v (pass_links p.lines p.edges e.rest) + degree p.edges v) + one_if (from == v)) + one_if (to == v)) % 2 ≡ 0
  extra_odd from to walk e leads v =
      sums _ _ _ _ _ _ _ (pass_link_ends p.lines p.edges v e.rest) (e.sums (ends_at v)) (degree_sum p.edges v)
      (walk_even p.lines p.edges v walk from to leads)
    where
      sums : (l j w s d f g : ℕ) → l ≡ j → w ≡ s + j → d ≡ s → ((w + f) + g) % 2 ≡ 0 → (((l + d) + f) + g) % 2 ≡ 0
      sums l j w s d f g one two three four = omega (arith, one, two, three, four)

  -- one of the two free ends is at each of their nodes
  two_free : t.places ≡ length rows.terminals + 2 → (v : ℕ)
      → one_if (length p.junctions == v) + one_if (length p.junctions + 1 == v) ≡ free_at v
  two_free two v = go (cases_eq (length p.junctions) v) (cases_eq (length p.junctions + 1) v)
    where
      go : (length p.junctions ≡ v) ⊎ (length p.junctions ≡ v → ⊥) → (length p.junctions + 1 ≡ v) ⊎ (length p.junctions + 1 ≡ v → ⊥)
          → one_if (length p.junctions == v) + one_if (length p.junctions + 1 == v) ≡ free_at v
      go (inl same) (inl other) = absurd (omega (arith, same, other))
      go (inl same) (inr aside) = omega (
        arith,
        ap one_if (eq-eqb (length p.junctions) v same),
        ap one_if (unequal (length p.junctions + 1) v aside),
        free_here v (omega (arith, same)) (omega (arith, same, two)),
      )
      go (inr apart) (inl same) = omega (
        arith,
        ap one_if (unequal (length p.junctions) v apart),
        ap one_if (eq-eqb (length p.junctions + 1) v same),
        free_here v (omega (arith, same)) (omega (arith, same, two)),
      )
      go (inr apart) (inr aside) = omega (
        arith,
        ap one_if (unequal (length p.junctions) v apart),
        ap one_if (unequal (length p.junctions + 1) v aside),
        neither (cases_lt v (length p.junctions)),
      )
        where
          neither : (v < length p.junctions) ⊎ (length p.junctions ≤ v) → free_at v ≡ 0
          neither (inl low) = not_before v low
          neither (inr over) = not_after v (omega (arith, over, apart, aside, two))

  walk_odd : t.places ≡ length rows.terminals + 2 → (from to : ℕ) (walk : List Pass) (e : Extra p.lines p.edges p.edges walk)
      → walk_end_from p.lines p.edges (Some from) walk ≡ Some to → (v : ℕ) → IsOddAt (walk_links from to e.rest) v
  walk_odd two from to walk e leads v = sums _ _ _ _ _ _ _ (extra_odd from to walk e leads v) (two_free two v)
    where
      sums : (l d f g a b r : ℕ) → (((l + d) + f) + g) % 2 ≡ 0 → a + b ≡ r → (((f + a) + ((g + b) + l)) + (d + r)) % 2 ≡ 0
      sums l d f g a b r one two = omega (arith, one, two)

  closed_odd : t.places ≡ length rows.terminals → (at : ℕ) (walk : List Pass) (e : Extra p.lines p.edges p.edges walk)
      → walk_end_from p.lines p.edges (Some at) walk ≡ Some at → (v : ℕ) → IsOddAt (pass_links p.lines p.edges e.rest) v
  closed_odd none at walk e leads v = sums _ _ _ _ (extra_odd at at walk e leads v) (beyond (cases_lt v (length p.junctions)))
    where
      sums : (l d f r : ℕ) → (((l + d) + f) + f) % 2 ≡ 0 → r ≡ 0 → (l + (d + r)) % 2 ≡ 0
      sums l d f r one two = omega (arith, one, two)

      beyond : (v < length p.junctions) ⊎ (length p.junctions ≤ v) → free_at v ≡ 0
      beyond (inl low) = not_before v low
      beyond (inr over) = not_after v (omega (arith, over, none))

  -- a place of each node where a matching of such links has an end
  node_place : (ls : List Link) → ((v : ℕ) → IsOddAt ls v) → ((v : ℕ) → link_ends v ls ≤ 1)
      → (v : ℕ) → 1 ≤ link_ends v ls → (i : ℕ) × (i < place_count p rows t) × (spot p rows t i ≡ v)
  node_place ls odd small v some = go (cases_lt v (length p.junctions))
      (cases_lt (v + length rows.terminals) (t.places + length p.junctions))
    where
      odd_there : (l d r : ℕ) → (l + (d + r)) % 2 ≡ 0 → l ≤ 1 → 1 ≤ l → r ≡ 0 → d % 2 ≡ 1
      odd_there l d r even most least none = omega (arith, even, most, least, none)

      among : Contains (odd_junctions p) v → (i : ℕ) × (i < place_count p rows t) × (spot p rows t i ≡ v)
      among (i, low, at) =
          let within : i < length rows.terminals = subst (λ (x : List ℕ). i < length x) (sym is.terminals) low in (
            i,
            omega (arith, is.inside, within),
            spot_terminal p rows t i within
                ∙ ap (λ (x : List ℕ). slice_index x i) is.terminals ∙ get_or_default (odd_junctions p) i 0 v low ∙ at,
          )

      go : (v < length p.junctions) ⊎ (length p.junctions ≤ v) → (v + length rows.terminals < t.places + length p.junctions)
          ⊎ (t.places + length p.junctions ≤ v + length rows.terminals) → (i : ℕ) × (i < place_count p rows t) × (spot p rows t i ≡ v)
      go (inl low) other = among (odd_place p is.free v low (odd_there _ _ _ (odd v) (small v) some (not_before v low)))
      go (inr over) (inl under) = (
        (v - length p.junctions) + length rows.terminals,
        omega (arith, over, under),
        spot_free p rows t ((v - length p.junctions) + length rows.terminals) (omega arith) ∙ omega (arith, over),
      )
      go (inr over) (inr past) =
          absurd (omega (
            arith,
            odd_there _ _ _ (odd v) (small v) some (not_after v past),
            degree_none p.edges (length p.junctions) v is.kept.ends over,
          ))

  -- at each place it has an end
  place_met : (ls : List Link) → ((v : ℕ) → IsOddAt ls v) → ((v : ℕ) → link_ends v ls ≤ 1)
      → (x : ℕ) → x < place_count p rows t → link_ends (spot p rows t x) ls ≡ 1
  place_met ls odd small x within = go (cases_lt x (length rows.terminals))
    where
      met : (l d r : ℕ) → (l + (d + r)) % 2 ≡ 0 → l ≤ 1 → (d + r) % 2 ≡ 1 → l ≡ 1
      met l d r even most odd = omega (arith, even, most, odd)

      sum_odd : (d r : ℕ) → d % 2 ≡ 1 → r ≡ 0 → (d + r) % 2 ≡ 1
      sum_odd d r one two = omega (arith, one, two)

      free_odd : (d r : ℕ) → d ≡ 0 → r ≡ 1 → (d + r) % 2 ≡ 1
      free_odd d r one two = omega (arith, one, two)

      terminal : x < length rows.terminals → link_ends (terminal_of rows x) ls ≡ 1
      terminal low =
          met _ _ _ (odd (terminal_of rows x)) (small (terminal_of rows x))
          (sum_odd _ _ (subst (λ (ts : List ℕ). degree p.edges (slice_index ts x) % 2 ≡ 1) (sym is.terminals)
          (odd_degree p is.free x (subst (λ (ts : List ℕ). x < length ts) is.terminals low)))
          (not_before (terminal_of rows x) (terminal_there p rows t is x low)))

      beyond : (v : ℕ) → length p.junctions ≤ v → v + length rows.terminals < t.places + length p.junctions → link_ends v ls ≡ 1
      beyond v over under = met _ _ _ (odd v) (small v) (free_odd _ _ (degree_none p.edges (length p.junctions) v is.kept.ends over)
          (free_here v over under))

      go : (x < length rows.terminals) ⊎ (length rows.terminals ≤ x) → link_ends (spot p rows t x) ls ≡ 1
      go (inl low) = ap (λ (v : ℕ). link_ends v ls) (spot_terminal p rows t x low) ∙ terminal low
      go (inr over) = ap (λ (v : ℕ). link_ends v ls) (spot_free p rows t x over)
          ∙ beyond (length p.junctions + (x - length rows.terminals)) (omega arith) (omega (arith, within, over))

  -- pairs of places that are matched as the links of a walk are
  record WalkPairs (cost : ℕ) : Type 0 where
    pairs : List Pair
    perfect : IsPerfectMatching t.places pairs
    costs : pairs_cost t pairs ≤ cost

  link_pairs : (ls : List Link) → ((v : ℕ) → IsOddAt ls v) → AreNear (place_count p rows t) (pot p rows t) ls → WalkPairs (link_costs ls)
  link_pairs ls odd near =
      let m = match_links (place_count p rows t) (pot p rows t) ls near in
      let odd_m : (v : ℕ) → IsOddAt m.rest v = λ v. passed_on _ _ _ (odd v) (m.ends v) in
      let r = pairs_of t (place_count p rows t) (spot p rows t) (pot p rows t) (are_spots p rows t is) m.rest m.matched.near
      (node_place m.rest odd_m m.matched.small) in
      record {
        pairs = r.pairs;
        perfect = λ x. at r.pairs m.rest x (cases_lt x t.places) r.ends r.beyond (place_met m.rest odd_m m.matched.small);
        costs = omega (arith, r.costs, m.costs);
      }
    where
      passed_on : (l k d : ℕ) → (l + d) % 2 ≡ 0 → (k + l) % 2 ≡ 0 → (k + d) % 2 ≡ 0
      passed_on l k d one two = omega arith

      at : (pairs : List Pair) (rest : List Link) (x : ℕ) → (x < t.places) ⊎ (t.places ≤ x)
          → ((x : ℕ) → x < place_count p rows t → pair_ends_at pairs x ≡ link_ends (spot p rows t x) rest)
          → ((x : ℕ) → place_count p rows t ≤ x → pair_ends_at pairs x ≡ 0)
          → ((x : ℕ) → x < place_count p rows t → link_ends (spot p rows t x) rest ≡ 1)
          → pair_ends_at pairs x ≡ cond (nat_lt x t.places) 1 0
      at pairs rest x (inl low) ends beyond met =
          ends x low ∙ met x low ∙ rw (lt-ltb x t.places low) refl
      at pairs rest x (inr over) ends beyond met = beyond x over ∙ rw (le-ltb x t.places over) refl

  -- the passes beyond one of each line
  beyond_lines : (from to : ℕ) (walk : List Pass) → walk_end_from p.lines p.edges (Some from) walk ≡ Some to → covers p.lines walk ≡ true
      → Extra p.lines p.edges p.edges walk
  beyond_lines from to walk leads all = extra p.lines p.edges p.lines p.edges walk is.kept.beside
      (beside_of p.lines p.edges is.kept.beside is.kept.rising) is.kept.rising (walk_known p.lines p.edges walk from to leads) all

  -- no walk over all lines costs less
  pub none_less : NoneCostsLess → t.places ≡ length rows.terminals + 2 → (pairs : List Pair) (moats : List Moat)
      → IsOptimalMatching t pairs moats
      → (from to : ℕ) (walk : List Pass) → walk_end_from p.lines p.edges (Some from) walk ≡ Some to → covers p.lines walk ≡ true
      → piece_cost p + pairs_cost t pairs ≤ walk_cost p walk + 2 * FREE_DISTANCE
  none_less duality two pairs moats best from to walk leads all =
      let e = beyond_lines from to walk leads all in
      let within = covering_within p is.kept walk from to leads all in
      let w = link_pairs (walk_links from to e.rest) (walk_odd two from to walk e leads) (
        free_near p rows t is from (length p.junctions) within.0 (omega arith) (omega arith),
        (
          free_near p rows t is to (length p.junctions + 1) within.1 (omega arith) (omega arith),
          pass_links_near p.lines p.edges (place_count p rows t) (pot p rows t) (line_near p rows t is) e.rest,
        ),
      ) in
      omega (arith, duality t pairs moats best w.pairs w.perfect, w.costs, pass_link_costs p.lines p.edges e.rest, e.sums edge_cost)

  -- and without free ends, no closed walk does
  pub none_less_closed : NoneCostsLess → t.places ≡ length rows.terminals → (pairs : List Pair) (moats : List Moat)
      → IsOptimalMatching t pairs moats
      → (at : ℕ) (walk : List Pass) → walk_end_from p.lines p.edges (Some at) walk ≡ Some at → covers p.lines walk ≡ true
      → piece_cost p + pairs_cost t pairs ≤ walk_cost p walk
  none_less_closed duality none pairs moats best at walk leads all =
      let e = beyond_lines at at walk leads all in
      let w = link_pairs (pass_links p.lines p.edges e.rest) (closed_odd none at walk e leads)
      (pass_links_near p.lines p.edges (place_count p rows t) (pot p rows t) (line_near p rows t is) e.rest) in
      omega (arith, duality t pairs moats best w.pairs w.perfect, w.costs, pass_link_costs p.lines p.edges e.rest, e.sums edge_cost)
