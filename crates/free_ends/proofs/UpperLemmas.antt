-- A walk that costs as much as the best matching lets one expect: over all lines, and once more over least walks between the
-- pairs that are no free end's.
use Rattle.std.proofs.Common.{◌≡◌, ◌≤◌, ◌<◌, ℕ, ◌+◌, ◌%◌, ◌==◌, ◌⊎◌, inl, inr, true, List, [], ◌∷◌, ◌++◌, Some, Contains, length, slice_index, arith, refl, sym, ◌∙◌, ap, subst}
use Rattle.free_ends.proofs.Names.{cases_eq, cases_lt, eq-eqb, eq_self, get_or_default, unequal, Pair, Pass, PieceValue, RowsValue, TableValue, cost_at, covers, degree, edge_cost, entry, odd_junctions, one_if, pair_ends_at, pairs_cost, pass_sum, piece_cost, terminal_of, walk_cost, walk_end_from}
use Rattle.free_ends.proofs.ExtraLemmas.{walk_known}
use Rattle.free_ends.proofs.MateLemmas.{ends_cons}
use Rattle.free_ends.proofs.OddLemmas.{degree_none, odd_degree, odd_place}
use Rattle.free_ends.proofs.PairLemmas.{pairs_cost-cons}
use Rattle.free_ends.proofs.PassLemmas.{ends_at, sum_append, walk_even}
use Rattle.free_ends.proofs.SpotLemmas.{IsEndTable, are_spots, pot, pot_terminal, spot_terminal, terminal_there}
use Rattle.free_ends.proofs.TourLemmas.{covers_with, known_append}
use Rattle.free_ends.proofs.WalkLemmas.{AreKnown}

-- the number of ends of pairs of terminals at a junction
abbrev pub pair_spots : RowsValue → ℕ → List Pair → ℕ
pair_spots rows v [] = 0
pair_spots rows v (q ∷ qs) = (one_if (terminal_of rows q.a == v) + one_if (terminal_of rows q.b == v)) + pair_spots rows v qs

module _ (p : PieceValue) (rows : RowsValue) (t : TableValue) (is : IsEndTable p rows t) where
  -- pairs of terminals alone
  abbrev pub AreInner : List Pair → Type 0
  AreInner pairs = (x : ℕ) → 1 ≤ pair_ends_at pairs x → x < length rows.terminals

  inner_first : (q : Pair) (qs : List Pair) → AreInner (q ∷ qs) → (q.a < length rows.terminals) × (q.b < length rows.terminals)
  inner_first q qs inner = (
    inner q.a (omega (arith, ends_cons q.a q qs, ap one_if (eq_self q.a))),
    inner q.b (omega (arith, ends_cons q.b q qs, ap one_if (eq_self q.b))),
  )

  inner_rest : (q : Pair) (qs : List Pair) → AreInner (q ∷ qs) → AreInner qs
  inner_rest q qs inner x some = inner x (omega (arith, ends_cons x q qs, some))

  -- least walks between the pairs, one after another
  record Ways (pairs : List Pair) : Type 0 where
    passes : List Pass
    known : AreKnown p.lines p.edges passes
    ends : (v : ℕ) → (pass_sum p.lines p.edges (ends_at v) passes + pair_spots rows v pairs) % 2 ≡ 0
    costs : pass_sum p.lines p.edges edge_cost passes ≡ pairs_cost t pairs

  pub entry_is : (i j : ℕ) → i < length rows.terminals → j < length rows.terminals → entry t i j ≡ cost_at rows i (terminal_of rows j)
  entry_is i j i_in j_in =
      (are_spots p rows t is).entries i j (omega (arith, is.inside, i_in)) (omega (arith, is.inside, j_in))
      ∙ ap (pot p rows t i) (spot_terminal p rows t j j_in)
      ∙ pot_terminal p rows t i (terminal_of rows j) i_in (terminal_there p rows t is j j_in)

  ways : (pairs : List Pair) → AreInner pairs → Ways pairs
  ways [] inner = record { passes = []; known = tt; ends = λ v. refl; costs = refl }
  ways (q ∷ qs) inner =
      let low = inner_first q qs inner in
      let least = is.rows_are.least q.a (terminal_of rows q.b) low.0 (terminal_there p rows t is q.b low.1) in
      let r = ways qs (inner_rest q qs inner) in
      record {
        passes = least.walk ++ r.passes;
        known = known_append p.lines p.edges least.walk r.passes
            (walk_known p.lines p.edges least.walk (terminal_of rows q.a) (terminal_of rows q.b) least.leads) r.known;
        ends = λ v. both _ _ _ _ _ _ (sum_append p.lines p.edges (ends_at v) least.walk r.passes)
            (walk_even p.lines p.edges v least.walk (terminal_of rows q.a) (terminal_of rows q.b) least.leads) (r.ends v);
        costs = sum_append p.lines p.edges edge_cost least.walk r.passes
            ∙ cost _ _ _ _ _ least.costs (entry_is q.a q.b low.0 low.1) r.costs
            ∙ sym (pairs_cost-cons t q qs);
      }
    where
      both : (s w r a b k : ℕ) → s ≡ w + r → ((w + a) + b) % 2 ≡ 0 → (r + k) % 2 ≡ 0 → (s + ((a + b) + k)) % 2 ≡ 0
      both s w r a b k one two three = omega arith

      cost : (w c e r k : ℕ) → w ≡ c → e ≡ c → r ≡ k → w + r ≡ e + k
      cost w c e r k one two three = omega arith

  -- terminals are the same where their places are
  pub same_terminal : (x i : ℕ) → x < length rows.terminals → i < length rows.terminals
      → one_if (terminal_of rows i == terminal_of rows x) ≡ one_if (x == i)
  same_terminal x i low i_in = go (cases_eq x i)
    where
      go : (x ≡ i) ⊎ (x ≡ i → ⊥) → one_if (terminal_of rows i == terminal_of rows x) ≡ one_if (x == i)
      go (inl here) = rw (eq-eqb x i here, eq-eqb (terminal_of rows i) (terminal_of rows x) (ap (terminal_of rows) (sym here))) refl
      go (inr apart) = rw (
        unequal x i apart,
        unequal (terminal_of rows i) (terminal_of rows x) (λ at. apart ((are_spots p rows t is).apart x i
            (omega (arith, is.inside, low)) (omega (arith, is.inside, i_in)) (spot_terminal p rows t x low ∙ sym at
            ∙ sym (spot_terminal p rows t i i_in)))),
      ) refl

  -- the ends of pairs at a terminal, and none elsewhere
  spots_at : (pairs : List Pair) → AreInner pairs → (x : ℕ) → x < length rows.terminals
      → pair_spots rows (terminal_of rows x) pairs ≡ pair_ends_at pairs x
  spots_at [] inner x low = refl
  spots_at (q ∷ qs) inner x low =
      let ends = inner_first q qs inner in
      added _ _ _ _ _ _ _ (same_terminal x q.a low ends.0) (same_terminal x q.b low ends.1) (spots_at qs (inner_rest q qs inner) x low)
      (ends_cons x q qs)
    where
      added : (a b c d e f s : ℕ) → a ≡ d → b ≡ e → c ≡ f → s ≡ (d + e) + f → (a + b) + c ≡ s
      added a b c d e f s one two three four = omega arith

  spots_none : (v : ℕ) → ((x : ℕ) → x < length rows.terminals → terminal_of rows x ≡ v → ⊥) → (pairs : List Pair) → AreInner pairs
      → pair_spots rows v pairs ≡ 0
  spots_none v none [] inner = refl
  spots_none v none (q ∷ qs) inner =
      let ends = inner_first q qs inner in
      omega (
        arith,
        ap one_if (unequal (terminal_of rows q.a) v (none q.a ends.0)),
        ap one_if (unequal (terminal_of rows q.b) v (none q.b ends.1)),
        spots_none v none qs (inner_rest q qs inner),
      )

  -- a junction is a terminal of odd degree, or none and of even degree
  abbrev IsTerminalOrEven : ℕ → Type 0
  IsTerminalOrEven v = ((x : ℕ) × (x < length rows.terminals) × (terminal_of rows x ≡ v) × (degree p.edges v % 2 ≡ 1))
      ⊎ (((x : ℕ) → x < length rows.terminals → terminal_of rows x ≡ v → ⊥) × (degree p.edges v % 2 ≡ 0))

  terminal_odd : (x : ℕ) → x < length rows.terminals → degree p.edges (terminal_of rows x) % 2 ≡ 1
  terminal_odd x low = subst (λ (ts : List ℕ). degree p.edges (slice_index ts x) % 2 ≡ 1) (sym is.terminals)
      (odd_degree p is.free x (subst (λ (ts : List ℕ). x < length ts) is.terminals low))

  terminal_or_even : (v : ℕ) → IsTerminalOrEven v
  terminal_or_even v = go (cases_eq (degree p.edges v % 2) 1) (cases_lt v (length p.junctions))
    where
      among : degree p.edges v % 2 ≡ 1 → Contains (odd_junctions p) v → IsTerminalOrEven v
      among odd (i, low, at) =
          let within : i < length rows.terminals = subst (λ (x : List ℕ). i < length x) (sym is.terminals) low in
          inl (i, within, ap (λ (x : List ℕ). slice_index x i) is.terminals ∙ get_or_default (odd_junctions p) i 0 v low ∙ at, odd)

      go : (degree p.edges v % 2 ≡ 1) ⊎ (degree p.edges v % 2 ≡ 1 → ⊥) → (v < length p.junctions) ⊎ (length p.junctions ≤ v)
          → IsTerminalOrEven v
      go (inl odd) (inl low) = among odd (odd_place p is.free v low odd)
      go (inl odd) (inr over) = absurd (omega (arith, odd, degree_none p.edges (length p.junctions) v is.kept.ends over))
      go (inr other) where_is = inr
          (λ x low at. other (subst (λ (k : ℕ). degree p.edges k % 2 ≡ 1) at (terminal_odd x low)), omega (arith, other))

  -- a walk over all lines and over the pairs, where each terminal is an end of a pair or of the walk
  pub walk_by : (a b : ℕ) (pairs : List Pair) → AreInner pairs → a < length p.junctions
      → ((v : ℕ) → ((x : ℕ) → x < length rows.terminals → terminal_of rows x ≡ v → ⊥) → (one_if (a == v) + one_if (b == v)) % 2 ≡ 0)
      → ((x : ℕ) → x < length rows.terminals
      → ((pair_ends_at pairs x + one_if (a == terminal_of rows x)) + one_if (b == terminal_of rows x)) % 2 ≡ 1)
      → (walk : List Pass) × (walk_end_from p.lines p.edges (Some a) walk ≡ Some b) × (covers p.lines walk ≡ true)
      × (walk_cost p walk ≡ piece_cost p + pairs_cost t pairs)
  walk_by a b pairs inner low even odd =
      let w = ways pairs inner in
      let c = covers_with p a b w.passes is.kept low w.known (λ j. at j w (terminal_or_even j)) in
      (c.walk, c.leads, c.covered, c.costs ∙ ap (λ (k : ℕ). piece_cost p + k) w.costs)
    where
      at : (j : ℕ) → (w : Ways pairs) → IsTerminalOrEven j
          → (((degree p.edges j + pass_sum p.lines p.edges (ends_at j) w.passes) + one_if (a == j)) + one_if (b == j)) % 2 ≡ 0
      at j w (inl (x, x_in, is_j, odd_j)) =
          sums _ _ _ _ _ _ odd_j (w.ends j)
          (subst (λ (k : ℕ). pair_spots rows k pairs ≡ pair_ends_at pairs x) is_j (spots_at pairs inner x x_in))
          (subst (λ (k : ℕ). ((pair_ends_at pairs x + one_if (a == k)) + one_if (b == k)) % 2 ≡ 1) is_j (odd x x_in))
        where
          sums : (d s k e f g : ℕ) → d % 2 ≡ 1 → (s + k) % 2 ≡ 0 → k ≡ e → ((e + f) + g) % 2 ≡ 1 → (((d + s) + f) + g) % 2 ≡ 0
          sums d s k e f g one two three four = omega arith
      at j w (inr (none, even_j)) =
          sums _ _ _ _ _ even_j (w.ends j) (spots_none j none pairs inner) (even j none)
        where
          sums : (d s k f g : ℕ) → d % 2 ≡ 0 → (s + k) % 2 ≡ 0 → k ≡ 0 → (f + g) % 2 ≡ 0 → (((d + s) + f) + g) % 2 ≡ 0
          sums d s k f g one two three four = omega arith
