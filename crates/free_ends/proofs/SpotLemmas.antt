-- The places of the table as nodes: the terminals, and two nodes beyond the junctions for the free ends. The distances from a
-- place are a potential: a line changes it by no more than its cost.
use Rattle.std.proofs.Common.{◌≡◌, ◌≤◌, ◌<◌, ℕ, zero, suc, ◌+◌, ◌-◌, ◌*◌, ◌==◌, ◌&&◌, ◌⊎◌, inl, inr, Bool, true, cond, nat_lt, List, [], ◌∷◌, Some, length, slice_get, arith, refl, sym, ◌∙◌, ap, subst}
use Rattle.free_ends.proofs.Names.{nat_tests, and_parts, cases_Bool, cases_eq, cases_lt, eq-eqb, le-ltb, lt-ltb, unequal, All-get_or, AreDistances, AreRows, Edge, FREE_DISTANCE, HasEndDistances, HasFreeEnds, IsLeastCost, IsValidPiece, PieceValue, RowsValue, TableValue, cost_at, edge_of, ends_below, entry, entry-comm, odd_junctions, terminal_of}
use Rattle.free_ends.proofs.LinkLemmas.{IsNear}
use Rattle.free_ends.proofs.PairLemmas.{AreSpots}

-- the table of a piece
pub record IsEndTable (p : PieceValue) (rows : RowsValue) (t : TableValue) : Type 0 where
  pub kept : IsValidPiece p
  pub free : HasFreeEnds p
  pub rows_are : AreRows p rows
  pub terminals : rows.terminals ≡ odd_junctions p
  pub inside : length rows.terminals ≤ t.places
  pub most : t.places ≤ length rows.terminals + 2
  pub distances : HasEndDistances rows t
  pub metric : AreDistances p

-- the edge of a line stands at an index, and joins junctions
pub edge_at : (ns : List ℕ) (es : List Edge) (n : ℕ) (e : Edge) → edge_of ns es n ≡ Some e → (k : ℕ) × (slice_get es k ≡ Some e)
edge_at [] es n e is = absurd (cc)
edge_at (m ∷ ns) [] n e is = absurd (cc)
edge_at (m ∷ ns) (x ∷ es) n e is = elim (cases_Bool (n == m)) [
  | inl same ↦ (0, subst (λ (t : Bool). cond t (Some x) (edge_of ns es n) ≡ Some e) same is)
  | inr other ↦
      let r = edge_at ns es n e (subst (λ (t : Bool). cond t (Some x) (edge_of ns es n) ≡ Some e) other is) in
      (suc r.0, r.1)
]

pub ends_there : (n : ℕ) (es : List Edge) (k : ℕ) (e : Edge) → ends_below n es ≡ true → slice_get es k ≡ Some e → (e.a < n) × (e.b < n)
ends_there n [] k e all is = absurd (cc)
ends_there n (x ∷ es) zero e all is = grind (arith, nat_tests)
ends_there n (x ∷ es) (suc k) e all is =
    ends_there n es k e (and_parts (nat_lt x.a n && nat_lt x.b n) (ends_below n es) all).1 is

-- a piece has a junction
pub some_junction : (p : PieceValue) → IsValidPiece p → 0 < length p.junctions
some_junction p kept = go p.edges refl
  where
    first : (e : Edge) (es : List Edge) → p.edges ≡ e ∷ es → 0 < length p.junctions
    first e es is = let ends = ends_there (length p.junctions) (e ∷ es) 0 e
        (subst (λ (x : List Edge). ends_below (length p.junctions) x ≡ true) is kept.ends) refl in
        omega (arith, ends.0)

    go : (es : List Edge) → p.edges ≡ es → 0 < length p.junctions
    go [] is = absurd (omega (arith, kept.some, kept.beside, ap length is))
    go (e ∷ es) is = first e es is

module _ (p : PieceValue) (rows : RowsValue) (t : TableValue) where
  -- the number of places, and their nodes
  abbrev pub place_count : ℕ
  place_count = t.places

  abbrev pub spot : ℕ → ℕ
  spot i = cond (nat_lt i (length rows.terminals)) (terminal_of rows i) (length p.junctions + (i - length rows.terminals))

  -- the distance from a place to a node
  abbrev pub pot : ℕ → ℕ → ℕ
  pot i v = cond (nat_lt i (length rows.terminals))
      (cond (nat_lt v (length p.junctions)) (cost_at rows i v) FREE_DISTANCE)
      (cond (nat_lt v (length p.junctions)) FREE_DISTANCE
      (cond (i + length p.junctions == v + length rows.terminals) 0 (2 * FREE_DISTANCE)))

  pub spot_terminal : (i : ℕ) → i < length rows.terminals → spot i ≡ terminal_of rows i
  spot_terminal i low = rw (lt-ltb i (length rows.terminals) low) refl

  pub spot_free : (i : ℕ) → length rows.terminals ≤ i → spot i ≡ length p.junctions + (i - length rows.terminals)
  spot_free i over = rw (le-ltb i (length rows.terminals) over) refl

  pub pot_terminal : (i v : ℕ) → i < length rows.terminals → v < length p.junctions → pot i v ≡ cost_at rows i v
  pot_terminal i v low there = rw (lt-ltb i (length rows.terminals) low, lt-ltb v (length p.junctions) there) refl

  pub pot_out : (i v : ℕ) → i < length rows.terminals → length p.junctions ≤ v → pot i v ≡ FREE_DISTANCE
  pot_out i v low beyond = rw (lt-ltb i (length rows.terminals) low, le-ltb v (length p.junctions) beyond) refl

  pub pot_in : (i v : ℕ) → length rows.terminals ≤ i → v < length p.junctions → pot i v ≡ FREE_DISTANCE
  pot_in i v over there = rw (le-ltb i (length rows.terminals) over, lt-ltb v (length p.junctions) there) refl

  pot_home : (i v : ℕ) → length rows.terminals ≤ i → length p.junctions ≤ v → i + length p.junctions ≡ v + length rows.terminals
      → pot i v ≡ 0
  pot_home i v over beyond same =
      rw (le-ltb i (length rows.terminals) over, le-ltb v (length p.junctions) beyond, eq-eqb _ _ same) refl

  pub pot_across : (i v : ℕ) → length rows.terminals ≤ i → length p.junctions ≤ v
      → (i + length p.junctions ≡ v + length rows.terminals → ⊥)
      → pot i v ≡ 2 * FREE_DISTANCE
  pot_across i v over beyond other =
      rw (le-ltb i (length rows.terminals) over, le-ltb v (length p.junctions) beyond, unequal _ _ other) refl

  module _ (is : IsEndTable p rows t) where
    pub terminal_there : (i : ℕ) → i < length rows.terminals → terminal_of rows i < length p.junctions
    terminal_there i low = All-get_or (λ (x : ℕ). x < length p.junctions) rows.terminals i 0 low is.rows_are.terminals.there

    pub least_at : (i j : ℕ) → i < length rows.terminals → j < length rows.terminals
        → IsLeastCost p (terminal_of rows i) (terminal_of rows j) (cost_at rows i (terminal_of rows j))
    least_at i j i_in j_in = is.rows_are.least i (terminal_of rows j) i_in (terminal_there j j_in)

    -- entries of two places, the first less than the second
    entry_costs : (i j : ℕ) → i < j → j < length rows.terminals → entry t i j ≡ cost_at rows i (terminal_of rows j)
    entry_costs i j less low =
        is.distances.entries i j less (omega (arith, is.inside, low)) ∙ rw (lt-ltb j (length rows.terminals) low) refl

    entry_free : (i j : ℕ) → i < length rows.terminals → length rows.terminals ≤ j → j < place_count → entry t i j ≡ FREE_DISTANCE
    entry_free i j low over within =
        is.distances.entries i j (omega (arith, low, over)) (omega (arith, is.inside, within))
        ∙ rw (le-ltb j (length rows.terminals) over, lt-ltb i (length rows.terminals) low) refl

    pub entry_across : (i j : ℕ) → length rows.terminals ≤ i → i < j → j < place_count → entry t i j ≡ 2 * FREE_DISTANCE
    entry_across i j over less within =
        is.distances.entries i j less (omega (arith, is.inside, within))
        ∙ rw (le-ltb j (length rows.terminals) (omega (arith, over, less)), le-ltb i (length rows.terminals) over) refl

    entry_home : (i : ℕ) → i < place_count → entry t i i ≡ 0
    entry_home i within = is.distances.none i (omega (arith, is.inside, within))

    pub spots_home : (i : ℕ) → i < place_count → pot i (spot i) ≡ 0
    spots_home i within = elim (cases_lt i (length rows.terminals)) [
      | inl low ↦ ap (pot i) (spot_terminal i low) ∙ pot_terminal i (terminal_of rows i) low (terminal_there i low)
          ∙ is.metric.home (terminal_of rows i) (cost_at rows i (terminal_of rows i)) (least_at i i low low)
      | inr over ↦ ap (pot i) (spot_free i over)
          ∙ pot_home i (length p.junctions + (i - length rows.terminals)) over (omega arith) (omega (arith, over))
    ]

    spots_forth : (i j : ℕ) → i < j → j < place_count → entry t i j ≡ pot i (spot j)
    spots_forth i j less within = elim (cases_lt j (length rows.terminals)) [
      | inl low ↦ entry_costs i j less low
          ∙ sym (ap (pot i) (spot_terminal j low) ∙ pot_terminal i (terminal_of rows j) (omega (arith, less, low)) (terminal_there j low))
      | inr over ↦ elim (cases_lt i (length rows.terminals)) [
        | inl low ↦ entry_free i j low over within
            ∙ sym (ap (pot i) (spot_free j over) ∙ pot_out i (length p.junctions + (j - length rows.terminals)) low (omega arith))
        | inr too ↦ entry_across i j too less within
            ∙ sym (ap (pot i) (spot_free j over) ∙ pot_across i (length p.junctions + (j - length rows.terminals)) too (omega arith)
            (λ same. omega (arith, same, less, over)))
      ]
    ]

    spots_back : (i j : ℕ) → j < i → i < place_count → entry t i j ≡ pot i (spot j)
    spots_back i j less within = entry-comm t i j ∙ elim (cases_lt i (length rows.terminals)) [
      | inl low ↦
          let j_in : j < length rows.terminals = omega (arith, less, low) in
          entry_costs j i less low
          ∙ is.metric.back (terminal_of rows j) (terminal_of rows i) _ _ (least_at j i j_in low) (least_at i j low j_in)
          ∙ sym (ap (pot i) (spot_terminal j j_in) ∙ pot_terminal i (terminal_of rows j) low (terminal_there j j_in))
      | inr over ↦ elim (cases_lt j (length rows.terminals)) [
        | inl low ↦ entry_free j i low over within
            ∙ sym (ap (pot i) (spot_terminal j low) ∙ pot_in i (terminal_of rows j) over (terminal_there j low))
        | inr too ↦ entry_across j i too less within
            ∙ sym (ap (pot i) (spot_free j too) ∙ pot_across i (length p.junctions + (j - length rows.terminals)) over (omega arith)
            (λ same. omega (arith, same, less, too)))
      ]
    ]

    spots_apart : (i j : ℕ) → i < j → j < place_count → spot i ≡ spot j → ⊥
    spots_apart i j less within same = elim (cases_lt j (length rows.terminals)) [
      | inl low ↦ is.rows_are.terminals.different i j 0 less low
          (sym (spot_terminal i (omega (arith, less, low))) ∙ same ∙ spot_terminal j low)
      | inr over ↦ elim (cases_lt i (length rows.terminals)) [
        | inl low ↦ omega (arith, terminal_there i low, spot_terminal i low, same, spot_free j over)
        | inr too ↦ omega (arith, spot_free i too, same, spot_free j over, less, over, too)
      ]
    ]

    pub are_spots : AreSpots t place_count spot pot
    are_spots = record {
      apart = λ i j i_in j_in same. one i j i_in j_in same (cases_lt i j) (cases_lt j i);
      entries = λ i j i_in j_in. entries i j i_in j_in (cases_lt i j) (cases_lt j i);
      home = spots_home;
    }
      where
        one : (i j : ℕ) → i < place_count → j < place_count → spot i ≡ spot j → (i < j) ⊎ (j ≤ i) → (j < i) ⊎ (i ≤ j) → i ≡ j
        one i j i_in j_in same (inl less) other = absurd (spots_apart i j less j_in same)
        one i j i_in j_in same (inr le) (inl less) = absurd (spots_apart j i less i_in (sym same))
        one i j i_in j_in same (inr le) (inr ge) = omega (arith, le, ge)

        entries : (i j : ℕ) → i < place_count → j < place_count → (i < j) ⊎ (j ≤ i) → (j < i) ⊎ (i ≤ j) → entry t i j ≡ pot i (spot j)
        entries i j i_in j_in (inl less) other = spots_forth i j less j_in
        entries i j i_in j_in (inr le) (inl less) = spots_back i j less i_in
        entries i j i_in j_in (inr le) (inr ge) =
            let same : i ≡ j = omega (arith, le, ge) in
            subst (λ (k : ℕ). entry t i k ≡ pot i (spot k)) same (entry_home i i_in ∙ sym (spots_home i i_in))

    -- no least cost is above twice the distance of a free end
    pub cost_low : (i v : ℕ) → i < length rows.terminals → v < length p.junctions → cost_at rows i v ≤ 2 * FREE_DISTANCE
    cost_low i v low there = omega (arith, is.rows_are.most i v low there, is.kept.cost_few)

    -- the ends of a line are near in each potential
    pub line_near : (n : ℕ) (e : Edge) → edge_of p.lines p.edges n ≡ Some e → IsNear place_count pot e.a e.b e.cost
    line_near n e found i within =
        let k = edge_at p.lines p.edges n e found in
        let ends = ends_there (length p.junctions) p.edges k.0 e is.kept.ends k.1 in
        elim (cases_lt i (length rows.terminals)) [
          | inl low ↦
              let d = is.metric.along (terminal_of rows i) k.0 (cost_at rows i e.a) (cost_at rows i e.b) e k.1
              (is.rows_are.least i e.a low ends.0) (is.rows_are.least i e.b low ends.1) in
              let a = pot_terminal i e.a low ends.0 in
              let b = pot_terminal i e.b low ends.1 in
              (omega (arith, a, b, d.1), omega (arith, a, b, d.0))
          | inr over ↦
              let a = pot_in i e.a over ends.0 in
              let b = pot_in i e.b over ends.1 in
              (omega (arith, a, b), omega (arith, a, b))
        ]

    -- and a junction is near a free end
    pub free_near : (s f : ℕ) → s < length p.junctions → length p.junctions ≤ f → f < length p.junctions + 2
        → IsNear place_count pot s f FREE_DISTANCE
    free_near s f there beyond last i within = elim (cases_lt i (length rows.terminals)) [
      | inl low ↦
          let a = pot_terminal i s low there in
          let b = pot_out i f low beyond in
          let most = cost_low i s low there in
          (omega (arith, a, b, most), omega (arith, a, b))
      | inr over ↦
          let a = pot_in i s over there in
          elim (cases_eq (i + length p.junctions) (f + length rows.terminals)) [
            | inl same ↦ let b = pot_home i f over beyond same in (omega (arith, a, b), omega (arith, a, b))
            | inr other ↦ let b = pot_across i f over beyond other in (omega (arith, a, b), omega (arith, a, b))
          ]
    ]
