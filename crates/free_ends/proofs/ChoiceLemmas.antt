-- The best ends: the terminals that are matched with the two free ends, where these are not matched with each other.
use Rattle.std.proofs.Common.{◌≡◌, ◌≢◌, ◌≤◌, ◌<◌, ℕ, ◌+◌, ◌-◌, ◌*◌, ◌%◌, ◌==◌, ◌⊎◌, inl, inr, true, List, [], ◌∷◌, Option, Some, None, Contains, length, slice_index, arith, refl, sym, ◌∙◌, ap, subst, false}
use Rattle.free_ends.proofs.Names.{cases_eq, cases_lt, eq-eqb, eq_self, get_or_default, le-ltb, lt-ltb, unequal, AreBestEnds, FREE_DISTANCE, HasFreeEnds, IsOptimalMatching, AreRows, HasEndDistances, LeastCostsAreDistances, IsPerfectMatching, IsValidPiece, Moat, NoneCostsLess, Pair, Pass, PieceValue, RowsValue, TableValue, WalkEnds, covers, edge_cost, ends_by, entry, is_fitting_walk, mate_of, odd_junctions, one_if, pair_ends_at, pairs_cost, piece_cost, piece_with_ends, terminal_of, walk_cost, walk_end_from, IsLeastClosedCost, and_parts, are_same_junction, both_ways, eqb-true, walk_start}
use Rattle.free_ends.proofs.LowerLemmas.{covering_some, none_less, none_less_closed}
use Rattle.free_ends.proofs.MateLemmas.{TakenPair, take_pair}
use Rattle.free_ends.proofs.PassLemmas.{beside_of, degree_sum, ends_at, first_step}
use Rattle.free_ends.proofs.SpotLemmas.{IsEndTable, are_spots, entry_across, least_at, pot, pot_in, some_junction, spot_terminal, terminal_there}
use Rattle.free_ends.proofs.TourLemmas.{covers_with, forwards, forwards_known, forwards_sum}
use Rattle.free_ends.proofs.UpperLemmas.{AreInner, entry_is, same_terminal, walk_by}

-- a walk fits where it leads from the start to the end and covers the lines
fits_ends : (p : PieceValue) (ends : WalkEnds) (walk : List Pass) → walk_end_from p.lines p.edges (Some ends.start) walk ≡ Some ends.end
    → covers p.lines walk ≡ true → is_fitting_walk (piece_with_ends p (Some ends)) walk ≡ true
fits_ends p ends walk leads all = rw (leads, all, eq_self ends.end) refl

-- where no ends are given, a closed walk fits
fits_closed : (p : PieceValue) → IsValidPiece p → HasFreeEnds p → (a : ℕ) (walk : List Pass)
    → walk_end_from p.lines p.edges (Some a) walk ≡ Some a → covers p.lines walk ≡ true → is_fitting_walk p walk ≡ true
fits_closed p kept free a [] leads all = absurd (covering_some p kept all)
fits_closed p kept free a (q ∷ qs) leads all =
    let n = first_step p.lines p.edges q qs a a leads in
    rw (free.start, free.end, n.1.found, n.1.from, leads, all, eq_self a) refl

-- and where a walk fits, it is closed
closed_of : (p : PieceValue) → HasFreeEnds p → (walk : List Pass) → is_fitting_walk p walk ≡ true
    → (at : ℕ) × (walk_end_from p.lines p.edges (Some at) walk ≡ Some at) × (covers p.lines walk ≡ true)
closed_of p free walk fits = go (walk_start p.lines p.edges walk) (and_parts _ (covers p.lines walk) (rw (free.start, free.end) at fits))
  where
    nowhere : (x : Option ℕ) → are_same_junction x None ≡ true → ⊥
    nowhere None is = both_ways false refl is
    nowhere (Some a) is = both_ways false refl is

    same : (x : Option ℕ) (b : ℕ) → are_same_junction x (Some b) ≡ true → x ≡ Some b
    same None b is = absurd (both_ways false refl is)
    same (Some a) b is = ap (λ (k : ℕ). Some k) (eqb-true a b is)

    go : (start : Option ℕ) → (are_same_junction (walk_end_from p.lines p.edges start walk) start ≡ true) × (covers p.lines walk ≡ true)
        → (at : ℕ) × (walk_end_from p.lines p.edges (Some at) walk ≡ Some at) × (covers p.lines walk ≡ true)
    go None parts = absurd (nowhere (walk_end_from p.lines p.edges None walk) parts.0)
    go (Some at) parts = (at, same (walk_end_from p.lines p.edges (Some at) walk) at parts.0, parts.1)

-- a double walk covers a piece, and costs its lines twice
double_walk : (p : PieceValue) → IsValidPiece p → (walk : List Pass) × (walk_end_from p.lines p.edges (Some 0) walk ≡ Some 0)
    × (covers p.lines walk ≡ true) × (walk_cost p walk ≡ piece_cost p + piece_cost p)
double_walk p kept =
    let beside = beside_of p.lines p.edges kept.beside kept.rising in
    let c = covers_with p 0 0 (forwards p.lines) kept (some_junction p kept) (forwards_known p.lines p.edges p.lines p.edges beside)
    (λ j. twice _ _ _ (degree_sum p.edges j) (forwards_sum p.lines p.edges (ends_at j) p.lines p.edges kept.beside beside)) in (
      c.walk,
      c.leads,
      c.covered,
      c.costs
          ∙ ap (λ (k : ℕ). piece_cost p + k) (forwards_sum p.lines p.edges edge_cost p.lines p.edges kept.beside beside),
    )
  where
    twice : (d s k : ℕ) {e : ℕ} → d ≡ e → s ≡ e → (((d + s) + k) + k) % 2 ≡ 0
    twice d s k one two = omega (arith, one, two)

module _ (p : PieceValue) (rows : RowsValue) (t : TableValue) (is : IsEndTable p rows t)
    (two : t.places ≡ length rows.terminals + 2) where
  -- the two ends by their places, and that each other terminal is an end of one of the pairs
  record EndsAt (pairs inner : List Pair) : Type 0 where
    i : ℕ
    j : ℕ
    i_in : i < length rows.terminals
    j_in : j < length rows.terminals
    apart : i ≢ j
    ends : ends_by rows.terminals pairs ≡ Some (record { start = terminal_of rows i; end = terminal_of rows j })
    rest : (x : ℕ) → x < length rows.terminals → pair_ends_at inner x + (one_if (x == i) + one_if (x == j)) ≡ 1

  -- there are no ends, and each terminal is an end of one of the pairs
  record NoEnds (pairs inner : List Pair) : Type 0 where
    ends : ends_by rows.terminals pairs ≡ None
    rest : (x : ℕ) → x < length rows.terminals → pair_ends_at inner x ≡ 1

  -- the pairs without the free ends
  record Parted (pairs : List Pair) : Type 0 where
    inner : List Pair
    is_inner : AreInner p rows t is inner
    costs : pairs_cost t pairs ≡ 2 * FREE_DISTANCE + pairs_cost t inner
    ends : EndsAt pairs inner ⊎ NoEnds pairs inner

  -- each place is an end of one pair
  place_once : (pairs : List Pair) → IsPerfectMatching t.places pairs → (x : ℕ) → x < length rows.terminals + 2 → pair_ends_at pairs x ≡ 1
  place_once pairs perfect x within = perfect x ∙ rw (lt-ltb x t.places (omega (arith, two, within))) refl

  place_within : (pairs : List Pair) → IsPerfectMatching t.places pairs → (x : ℕ) → 1 ≤ pair_ends_at pairs x
      → x < length rows.terminals + 2
  place_within pairs perfect x some = go (cases_lt x t.places)
    where
      none : t.places ≤ x → pair_ends_at pairs x ≡ 0
      none over = perfect x ∙ rw (le-ltb x t.places over) refl

      go : (x < t.places) ⊎ (t.places ≤ x) → x < length rows.terminals + 2
      go (inl low) = omega (arith, two, low)
      go (inr over) = absurd (omega (arith, none over, some))

  free_entry : (f i : ℕ) → length rows.terminals ≤ f → f < length rows.terminals + 2 → i < length rows.terminals
      → entry t f i ≡ FREE_DISTANCE
  free_entry f i over within low =
      (are_spots p rows t is).entries f i (omega (arith, two, within)) (omega (arith, low))
      ∙ ap (pot p rows t f) (spot_terminal p rows t i low)
      ∙ pot_in p rows t f (terminal_of rows i) over (terminal_there p rows t is i low)

  -- the number of terminals is the place of the first free end
  parted : (pairs : List Pair) → IsPerfectMatching t.places pairs → Parted pairs
  parted pairs perfect = go (cases_lt (mate_of first pairs) first)
    where
      first : ℕ
      first = length rows.terminals

      once : (x : ℕ) → x < length rows.terminals + 2 → pair_ends_at pairs x ≡ 1
      once = place_once pairs perfect

      a : TakenPair t first pairs
      a = take_pair t first pairs (omega (arith, once first (omega arith)))

      mate_in : mate_of first pairs < length rows.terminals + 2
      mate_in = place_within pairs perfect (mate_of first pairs)
          (omega (arith, a.ends (mate_of first pairs), ap one_if (eq_self (mate_of first pairs))))

      mate_other : mate_of first pairs ≡ first → ⊥
      mate_other same = omega (
        arith,
        once first (omega arith),
        a.ends first,
        ap one_if (eq_self first),
        ap one_if (eq-eqb first (mate_of first pairs) (sym same)),
      )

      none_first : pair_ends_at a.rest first ≡ 0
      none_first = omega (arith, once first (omega arith), a.ends first, ap one_if (eq_self first))

      none_mate : pair_ends_at a.rest (mate_of first pairs) ≡ 0
      none_mate = omega (
        arith,
        once (mate_of first pairs) mate_in,
        a.ends (mate_of first pairs),
        ap one_if (eq_self (mate_of first pairs)),
      )

      fewer : (x : ℕ) → 1 ≤ pair_ends_at a.rest x → x < length rows.terminals + 2
      fewer x some = place_within pairs perfect x (omega (arith, a.ends x, some))

      go : (mate_of first pairs < first) ⊎ (first ≤ mate_of first pairs) → Parted pairs
      go (inr over) = record {
        inner = a.rest;
        is_inner = λ x some. low x some (cases_lt x first) (cases_eq x first);
        costs = a.costs ∙ ap (λ (k : ℕ). k + pairs_cost t a.rest) (ap (entry t first) mate_is
            ∙ entry_across p rows t is first (first + 1) (omega arith)
            (omega arith) (omega arith));
        ends = inr (record {
          ends = rw (le-ltb (mate_of first pairs) first over) refl;
          rest = λ x x_in. omega (
            arith,
            once x (omega (arith, x_in)),
            a.ends x,
            ap one_if (unequal x first (λ same. omega (arith, same, x_in))),
            ap one_if (unequal x (mate_of first pairs) (λ same. omega (arith, same, x_in, over))),
          );
        });
      }
        where
          mate_is : mate_of first pairs ≡ first + 1
          mate_is = between (mate_of first pairs) first over mate_in mate_other
            where
              between : (m k : ℕ) → k ≤ m → m < k + 2 → (m ≡ k → ⊥) → m ≡ k + 1
              between m k low high other = omega (arith, low, high, other)

          low : (x : ℕ) → 1 ≤ pair_ends_at a.rest x → (x < first) ⊎ (first ≤ x) → (x ≡ first) ⊎ (x ≡ first → ⊥) → x < first
          low x some (inl less) other = less
          low x some (inr le) (inl same) = absurd (omega (arith, some, none_first, ap (pair_ends_at a.rest) same))
          low x some (inr le) (inr apart) =
              let at : x ≡ mate_of first pairs = omega (arith, mate_is, fewer x some, le, apart) in
              absurd (omega (arith, some, none_mate, ap (pair_ends_at a.rest) at))
      go (inl mate_low) = record {
        inner = b.rest;
        is_inner = λ x some. inner_low x some (cases_lt x first) (cases_eq x first);
        costs = cost _ _ _ _ _ a.costs b.costs (free_entry first (mate_of first pairs) (omega arith) (omega arith) mate_low)
            (free_entry second (mate_of second a.rest) (omega arith) (omega arith) j_low);
        ends = inl (record {
          i = mate_of first pairs;
          j = mate_of second a.rest;
          i_in = mate_low;
          j_in = j_low;
          apart = λ same. j_not _ none_mate (sym same);
          ends = rw (← b_mate, lt-ltb (mate_of first pairs) first mate_low, lt-ltb (mate_of second a.rest) first j_low) refl;
          rest = λ x x_in. omega (
            arith,
            once x (omega (arith, x_in)),
            a.ends x,
            b.ends x,
            ap one_if (unequal x first (λ same. omega (arith, same, x_in))),
            ap one_if (unequal x second (λ same. omega (arith, same, x_in))),
          );
        });
      }
        where
          second : ℕ
          second = length rows.terminals + 1

          second_once : pair_ends_at a.rest second ≡ 1
          second_once = omega (
            arith,
            once second (omega arith),
            a.ends second,
            ap one_if (unequal second first (λ same. omega (arith, same))),
            ap one_if (unequal second (mate_of first pairs) (λ same. omega (arith, same, mate_low))),
          )

          b : TakenPair t second a.rest
          b = take_pair t second a.rest (omega (arith, second_once))

          b_mate : mate_of second a.rest ≡ mate_of second pairs
          b_mate = a.others second (λ same. omega (arith, same)) (λ same. omega (arith, same, mate_low))

          j_some : 1 ≤ pair_ends_at a.rest (mate_of second a.rest)
          j_some = omega (arith, b.ends (mate_of second a.rest), ap one_if (eq_self (mate_of second a.rest)))

          j_not : (x : ℕ) → pair_ends_at a.rest x ≡ 0 → mate_of second a.rest ≡ x → ⊥
          j_not x none same = omega (arith, j_some, none, ap (pair_ends_at a.rest) same)

          j_other : mate_of second a.rest ≡ second → ⊥
          j_other same = omega (
            arith,
            second_once,
            b.ends second,
            ap one_if (eq_self second),
            ap one_if (eq-eqb second (mate_of second a.rest) (sym same)),
          )

          j_low : mate_of second a.rest < first
          j_low = below (mate_of second a.rest) first (fewer (mate_of second a.rest) j_some) (j_not first none_first) j_other
            where
              below : (m k : ℕ) → m < k + 2 → (m ≡ k → ⊥) → (m ≡ k + 1 → ⊥) → m < k
              below m k high other aside = omega (arith, high, other, aside)

          inner_low : (x : ℕ) → 1 ≤ pair_ends_at b.rest x → (x < first) ⊎ (first ≤ x) → (x ≡ first) ⊎ (x ≡ first → ⊥) → x < first
          inner_low x some (inl less) other = less
          inner_low x some (inr le) (inl same) =
              absurd (omega (arith, some, b.ends x, none_first, ap (pair_ends_at a.rest) same))
          inner_low x some (inr le) (inr apart) =
              let within : x < first + 2 = fewer x (omega (arith, some, b.ends x)) in
              let at : x ≡ second = omega (arith, within, le, apart) in
              absurd (omega (arith, some, ap (pair_ends_at b.rest) at, second_once, b.ends second, ap one_if (eq_self second)))

          cost : (w e r f s : ℕ) → w ≡ e + r → r ≡ f + s → e ≡ FREE_DISTANCE → f ≡ FREE_DISTANCE → w ≡ 2 * FREE_DISTANCE + s
          cost w e r f s one two three four = omega (arith, one, two, three, four)

  -- the pairs cost as much as the free ends at least
  pub pays_ends : (pairs : List Pair) → IsPerfectMatching t.places pairs → 2 * FREE_DISTANCE ≤ pairs_cost t pairs
  pays_ends pairs perfect = omega (arith, (parted pairs perfect).costs)

  -- and no more than all lines above it
  pub pays_few : NoneCostsLess → (pairs : List Pair) (moats : List Moat) → IsOptimalMatching t pairs moats
      → pairs_cost t pairs ≤ piece_cost p + 2 * FREE_DISTANCE
  pays_few duality pairs moats best =
      let d = double_walk p is.kept in
      omega (arith, none_less p rows t is duality two pairs moats best 0 0 d.0 d.1 d.2, d.3)

  terminal_odd : (i : ℕ) → i < length rows.terminals → Contains (odd_junctions p) (terminal_of rows i)
  terminal_odd i low = (
    i,
    subst (λ (ts : List ℕ). i < length ts) is.terminals low,
    get_or_default (odd_junctions p) i (terminal_of rows i) 0 (subst (λ (ts : List ℕ). i < length ts) is.terminals low)
        ∙ ap (λ (ts : List ℕ). slice_index ts i) (sym is.terminals),
  )

  -- where the free ends are matched with each other, no terminal is left: two that are matched could be the ends, for less
  none_left : NoneCostsLess → (pairs : List Pair) (moats : List Moat) → IsOptimalMatching t pairs moats → (inner : List Pair)
      → AreInner p rows t is inner → pairs_cost t pairs ≡ 2 * FREE_DISTANCE + pairs_cost t inner
      → ((x : ℕ) → x < length rows.terminals → pair_ends_at inner x ≡ 1) → 0 < length rows.terminals → ⊥
  none_left duality pairs moats best inner is_inner costs rest some =
      omega (
        arith,
        none_less p rows t is duality two pairs moats best (terminal_of rows 0) (terminal_of rows mate) w.0 w.1 w.2,
        w.3,
        costs,
        a.costs,
        least,
      )
    where
      mate : ℕ
      mate = mate_of 0 inner

      a : TakenPair t 0 inner
      a = take_pair t 0 inner (omega (arith, rest 0 some))

      mate_low : mate < length rows.terminals
      mate_low = is_inner mate (omega (arith, a.ends mate, ap one_if (eq_self mate)))

      other : mate ≡ 0 → ⊥
      other same = omega (arith, rest 0 some, a.ends 0, ap one_if (eq-eqb 0 mate (sym same)))

      apart : terminal_of rows 0 ≡ terminal_of rows mate → ⊥
      apart same = other (sym ((are_spots p rows t is).apart 0 mate (omega arith) (omega (arith, mate_low))
          (spot_terminal p rows t 0 some ∙ same ∙ sym (spot_terminal p rows t mate mate_low))))

      least : 1 ≤ entry t 0 mate
      least = omega (
        arith,
        entry_is p rows t is 0 mate some mate_low,
        is.metric.apart (terminal_of rows 0) (terminal_of rows mate) _ apart (least_at p rows t is 0 mate some mate_low),
      )

      fewer : AreInner p rows t is a.rest
      fewer x more = is_inner x (omega (arith, a.ends x, more))

      none_of : (f g : ℕ) → f ≡ 0 → g ≡ 0 → (f + g) % 2 ≡ 0
      none_of f g one two = omega (arith, one, two)

      one_each : (n m f g d e : ℕ) → n ≡ 1 → n ≡ (f + g) + m → d ≡ f → e ≡ g → ((m + d) + e) % 2 ≡ 1
      one_each n m f g d e one two three four = omega (arith, one, two, three, four)

      w : (walk : List Pass) × (walk_end_from p.lines p.edges (Some (terminal_of rows 0)) walk ≡ Some (terminal_of rows mate))
          × (covers p.lines walk ≡ true) × (walk_cost p walk ≡ piece_cost p + pairs_cost t a.rest)
      w = walk_by p rows t is (terminal_of rows 0) (terminal_of rows mate) a.rest fewer (terminal_there p rows t is 0 some)
          (λ v none. none_of _ _ (ap one_if (unequal (terminal_of rows 0) v (none 0 some)))
          (ap one_if (unequal (terminal_of rows mate) v (none mate mate_low))))
          (λ x low. one_each _ _ _ _ _ _ (rest x low) (a.ends x) (same_terminal p rows t is x 0 low some)
          (same_terminal p rows t is x mate low mate_low))

  no_terminals : NoneCostsLess → (pairs : List Pair) (moats : List Moat) → IsOptimalMatching t pairs moats → (inner : List Pair)
      → AreInner p rows t is inner → pairs_cost t pairs ≡ 2 * FREE_DISTANCE + pairs_cost t inner
      → ((x : ℕ) → x < length rows.terminals → pair_ends_at inner x ≡ 1) → odd_junctions p ≡ []
  no_terminals duality pairs moats best inner is_inner costs rest = sym is.terminals ∙ go rows.terminals refl
    where
      go : (ts : List ℕ) → rows.terminals ≡ ts → ts ≡ []
      go [] same = refl
      go (x ∷ ts) same = absurd (none_left duality pairs moats best inner is_inner costs rest (omega (arith, ap length same)))

  -- they are the best ends
  pub are_best : NoneCostsLess → (pairs : List Pair) (moats : List Moat) → IsOptimalMatching t pairs moats → (cost : ℕ)
      → cost + 2 * FREE_DISTANCE ≡ piece_cost p + pairs_cost t pairs
      → AreBestEnds p (ends_by rows.terminals pairs) cost
  are_best duality pairs moats best cost paid =
      let part = parted pairs best.paired in
      by part.inner part.is_inner part.costs part.ends
    where
      least : (from to : ℕ) (walk : List Pass) → walk_end_from p.lines p.edges (Some from) walk ≡ Some to → covers p.lines walk ≡ true
          → cost ≤ walk_cost p walk
      least from to walk leads all = omega (arith, paid, none_less p rows t is duality two pairs moats best from to walk leads all)

      by : (inner : List Pair) → AreInner p rows t is inner → pairs_cost t pairs ≡ 2 * FREE_DISTANCE + pairs_cost t inner
          → EndsAt pairs inner ⊎ NoEnds pairs inner → AreBestEnds p (ends_by rows.terminals pairs) cost
      by inner is_inner costs (inl e) =
          let w = walk_by p rows t is (terminal_of rows e.i) (terminal_of rows e.j) inner is_inner (terminal_there p rows t is e.i e.i_in)
          (λ v none. none_of _ _ (ap one_if (unequal (terminal_of rows e.i) v (none e.i e.i_in)))
          (ap one_if (unequal (terminal_of rows e.j) v (none e.j e.j_in))))
          (λ x low. one_each _ _ _ _ _ (e.rest x low) (same_terminal p rows t is x e.i low e.i_in)
          (same_terminal p rows t is x e.j low e.j_in)) in
          subst (λ (o : Option WalkEnds). AreBestEnds p o cost) (sym e.ends) (record {
            odd = (
              terminal_odd e.i e.i_in,
              terminal_odd e.j e.j_in,
              λ same. e.apart ((are_spots p rows t is).apart e.i e.j (omega (arith, e.i_in))
                  (omega (arith, e.j_in)) (spot_terminal p rows t e.i e.i_in ∙ same ∙ sym (spot_terminal p rows t e.j e.j_in))),
            );
            none = λ no_ends. absurd (cc);
            walk = w.0;
            fitting = fits_ends p (record { start = terminal_of rows e.i; end = terminal_of rows e.j }) w.0 w.1 w.2;
            costs = omega (arith, w.3, costs, paid);
            least = λ other is_walk. least is_walk.from is_walk.to other is_walk.leads is_walk.covered;
          })
        where
          none_of : (a b : ℕ) → a ≡ 0 → b ≡ 0 → (a + b) % 2 ≡ 0
          none_of a b one two = omega (arith, one, two)

          one_each : (n f g a b : ℕ) → n + (f + g) ≡ 1 → a ≡ f → b ≡ g → ((n + a) + b) % 2 ≡ 1
          one_each n f g a b one two three = omega (arith, one, two, three)
      by inner is_inner costs (inr e) =
          let w = walk_by p rows t is 0 0 inner is_inner (some_junction p is.kept) (λ v none. twice _)
          (λ x low. once _ _ (e.rest x low)) in
          subst (λ (o : Option WalkEnds). AreBestEnds p o cost) (sym e.ends) (record {
            odd = tt;
            none = λ no_ends. no_terminals duality pairs moats best inner is_inner costs e.rest;
            walk = w.0;
            fitting = fits_closed p is.kept is.free 0 w.0 w.1 w.2;
            costs = omega (arith, w.3, costs, paid);
            least = λ other is_walk. least is_walk.from is_walk.to other is_walk.leads is_walk.covered;
          })
        where
          twice : (k : ℕ) → (k + k) % 2 ≡ 0
          twice k = omega arith

          once : (n k : ℕ) → n ≡ 1 → ((n + k) + k) % 2 ≡ 1
          once n k one = omega (arith, one)

-- without free ends the pairs are those of a least closed walk
module _ (p : PieceValue) (rows : RowsValue) (t : TableValue) (is : IsEndTable p rows t) (none : t.places ≡ length rows.terminals) where
  all_inner : (pairs : List Pair) → IsPerfectMatching t.places pairs → AreInner p rows t is pairs
  all_inner pairs perfect x some = go (cases_lt x t.places)
    where
      beyond : t.places ≤ x → pair_ends_at pairs x ≡ 0
      beyond over = perfect x ∙ rw (le-ltb x t.places over) refl

      go : (x < t.places) ⊎ (t.places ≤ x) → x < length rows.terminals
      go (inl low) = omega (arith, none, low)
      go (inr over) = absurd (omega (arith, beyond over, some))

  -- they cost no more than all lines
  pub pays_few_closed : NoneCostsLess → (pairs : List Pair) (moats : List Moat) → IsOptimalMatching t pairs moats
      → pairs_cost t pairs ≤ piece_cost p
  pays_few_closed duality pairs moats best =
      let d = double_walk p is.kept in
      omega (arith, none_less_closed p rows t is duality none pairs moats best 0 d.0 d.1 d.2, d.3)

  pub are_closed : NoneCostsLess → (pairs : List Pair) (moats : List Moat) → IsOptimalMatching t pairs moats
      → IsLeastClosedCost p (piece_cost p + pairs_cost t pairs)
  are_closed duality pairs moats best =
      let w = walk_by p rows t is 0 0 pairs (all_inner pairs best.paired) (some_junction p is.kept) (λ v free. twice _)
      (λ x low. once _ _ (one x low)) in
      record {
        walk = w.0;
        fitting = fits_closed p is.kept is.free 0 w.0 w.1 w.2;
        costs = w.3;
        least = λ other fits.
            let f = closed_of p is.free other fits in
            subst (λ (k : ℕ). k ≤ walk_cost p other) (sym w.3)
            (none_less_closed p rows t is duality none pairs moats best f.0 other f.1 f.2);
      }
    where
      one : (x : ℕ) → x < length rows.terminals → pair_ends_at pairs x ≡ 1
      one x low = best.paired x ∙ rw (lt-ltb x t.places (omega (arith, none, low))) refl

      twice : (k : ℕ) → (k + k) % 2 ≡ 0
      twice k = omega arith

      once : (n k : ℕ) → n ≡ 1 → ((n + k) + k) % 2 ≡ 1
      once n k one = omega (arith, one)

-- the table that the code makes is the table of the piece
pub end_table : (p : PieceValue) (rows : RowsValue) (t : TableValue) (odds : List ℕ) (free : ℕ) → IsValidPiece p → HasFreeEnds p
    → LeastCostsAreDistances → odds ≡ odd_junctions p → AreRows p rows → rows.terminals ≡ odds
    → t.places ≡ length odds + free → free ≤ 2 → HasEndDistances rows t → IsEndTable p rows t
end_table p rows t odds free kept no_ends metric odds_are rows_are terminals places few distances =
    let same = ap length terminals in
    record {
      kept = kept;
      free = no_ends;
      rows_are = rows_are;
      terminals = terminals ∙ odds_are;
      inside = omega (arith, places, same);
      most = omega (arith, places, same, few);
      distances = distances;
      metric = metric p kept;
    }

-- what the pairs cost fits, and the cost that the code computes is that of the best ends
pub best_few : (p : PieceValue) (rows : RowsValue) (t : TableValue) (is : IsEndTable p rows t) → t.places ≡ length rows.terminals + 2
    → NoneCostsLess → (pairs read : List Pair) (moats : List Moat) → IsOptimalMatching t pairs moats → read ≡ pairs
    → (pairs_cost t read ≤ 400000) × (2 * FREE_DISTANCE ≤ pairs_cost t read)
best_few p rows t is two duality pairs read moats best same =
    rw same (
      omega (arith, pays_few p rows t is two duality pairs moats best, is.kept.cost_few),
      pays_ends p rows t is two pairs best.paired,
    )

pub best_is : (p : PieceValue) (rows : RowsValue) (t : TableValue) (is : IsEndTable p rows t) → t.places ≡ length rows.terminals + 2
    → NoneCostsLess → (pairs read : List Pair) (moats : List Moat) → IsOptimalMatching t pairs moats → read ≡ pairs
    → (terminals : List ℕ) → rows.terminals ≡ terminals
    → (ends : Option WalkEnds) → ends ≡ ends_by terminals read → (lines most : ℕ) → lines ≡ piece_cost p → most ≡ pairs_cost t read
    → AreBestEnds p ends ((lines + most) - 200000)
best_is p rows t is two duality pairs read moats best same terminals terminals_are ends ends_are lines most lines_are most_is =
    let paid = pays_ends p rows t is two pairs best.paired in
    let whole : most ≡ pairs_cost t pairs = most_is ∙ ap (pairs_cost t) same in
    subst (λ (o : Option WalkEnds). AreBestEnds p o ((lines + most) - 200000))
    (sym (ends_are ∙ ap (λ (ts : List ℕ). ends_by ts read) (sym terminals_are) ∙ ap (ends_by rows.terminals) same))
    (are_best p rows t is two duality pairs moats best ((lines + most) - 200000) (omega (arith, paid, whole, lines_are)))
