-- No way between two places through a third is shorter than the direct one.
use Rattle.std.proofs.Common.{◌≡◌, ◌≤◌, ◌<◌, ℕ, ◌+◌, ◌*◌, ◌⊎◌, inl, inr, length, arith, sym, ◌∙◌, ap}
use Rattle.free_ends.proofs.Names.{cases_eq, cases_lt, FREE_DISTANCE, HasTriangleInequality, PieceValue, RowsValue, TableValue, entry, terminal_of}
use Rattle.free_ends.proofs.SpotLemmas.{IsEndTable, are_spots, cost_low, least_at, place_count, pot, pot_across, pot_in, pot_out, spot_free, spot_terminal, spots_home, terminal_there}
use Rattle.free_ends.proofs.UpperLemmas.{entry_is}

module _ (p : PieceValue) (rows : RowsValue) (t : TableValue) (is : IsEndTable p rows t) where
  to_free : (i f : ℕ) → i < length rows.terminals → length rows.terminals ≤ f → f < place_count p rows t → entry t i f ≡ FREE_DISTANCE
  to_free i f low over within =
      (are_spots p rows t is).entries i f (omega (arith, is.inside, low)) within ∙ ap (pot p rows t i) (spot_free p rows t f over)
      ∙ pot_out p rows t i _ low (omega arith)

  pub from_free : (f i : ℕ) → length rows.terminals ≤ f → f < place_count p rows t → i < length rows.terminals
      → entry t f i ≡ FREE_DISTANCE
  from_free f i over within low =
      (are_spots p rows t is).entries f i within (omega (arith, is.inside, low)) ∙ ap (pot p rows t f) (spot_terminal p rows t i low)
      ∙ pot_in p rows t f (terminal_of rows i) over (terminal_there p rows t is i low)

  -- the two free ends are twice as far from each other
  across : (f g : ℕ) → length rows.terminals ≤ f → f < place_count p rows t → length rows.terminals ≤ g → g < place_count p rows t
      → (f ≡ g → ⊥) → entry t f g ≡ 2 * FREE_DISTANCE
  across f g over within too there apart =
      (are_spots p rows t is).entries f g within there ∙ ap (pot p rows t f) (spot_free p rows t g too)
      ∙ pot_across p rows t f _ over (omega arith) (λ same. apart (omega (arith, same, too)))

  -- and no place is farther from itself
  home : (f g : ℕ) → f < place_count p rows t → f ≡ g → entry t f g ≡ 0
  home f g within same =
      ap (entry t f) (sym same) ∙ (are_spots p rows t is).entries f f within within ∙ spots_home p rows t is f within

  pub triangles : HasTriangleInequality t
  triangles a b a_in b_in c c_in =
      go (cases_lt a (length rows.terminals)) (cases_lt b (length rows.terminals)) (cases_lt c (length rows.terminals))
    where
      a_at : a < place_count p rows t
      a_at = a_in

      b_at : b < place_count p rows t
      b_at = b_in

      c_at : c < place_count p rows t
      c_at = c_in

      -- one of three places among two is another
      free : length rows.terminals ≤ a → length rows.terminals ≤ b → length rows.terminals ≤ c → (a ≡ c) ⊎ (a ≡ c → ⊥)
          → (a ≡ b) ⊎ (a ≡ b → ⊥) → (b ≡ c) ⊎ (b ≡ c → ⊥) → entry t a c ≤ entry t a b + entry t b c
      free over too there (inl same) one other = omega (arith, home a c a_at same)
      free over too there (inr apart) (inr aside) other =
          omega (arith, across a c over a_at there c_at apart, across a b over a_at too b_at aside)
      free over too there (inr apart) (inl same) (inr aside) =
          omega (arith, across a c over a_at there c_at apart, across b c too b_at there c_at aside)
      free over too there (inr apart) (inl same) (inl also) = absurd (apart (same ∙ also))

      go : (a < length rows.terminals) ⊎ (length rows.terminals ≤ a) → (b < length rows.terminals) ⊎ (length rows.terminals ≤ b)
          → (c < length rows.terminals) ⊎ (length rows.terminals ≤ c) → entry t a c ≤ entry t a b + entry t b c
      go (inl low) (inl near) (inl far) =
          let whole = is.metric.through (terminal_of rows a) (terminal_of rows b) (terminal_of rows c) _ _ _
          (least_at p rows t is a c low far) (least_at p rows t is a b low near) (least_at p rows t is b c near far) in
          omega (arith, whole, entry_is p rows t is a c low far, entry_is p rows t is a b low near, entry_is p rows t is b c near far)
      go (inl low) (inr over) (inl far) =
          omega (
            arith,
            entry_is p rows t is a c low far,
            cost_low p rows t is a (terminal_of rows c) low (terminal_there p rows t is c far),
            to_free a b low over b_at,
            from_free b c over b_at far,
          )
      go (inl low) (inl near) (inr there) = omega (arith, to_free a c low there c_at, to_free b c near there c_at)
      go (inl low) (inr over) (inr there) = omega (arith, to_free a c low there c_at, to_free a b low over b_at)
      go (inr over) (inl near) (inl far) = omega (arith, from_free a c over a_at far, from_free a b over a_at near)
      go (inr over) (inr too) (inl far) = omega (arith, from_free a c over a_at far, from_free b c too b_at far)
      go (inr over) (inl near) (inr there) = wide (cases_eq a c)
        where
          wide : (a ≡ c) ⊎ (a ≡ c → ⊥) → entry t a c ≤ entry t a b + entry t b c
          wide (inl same) = omega (arith, home a c a_at same)
          wide (inr apart) = omega
              (arith, across a c over a_at there c_at apart, from_free a b over a_at near, to_free b c near there c_at)
      go (inr over) (inr too) (inr there) = free over too there (cases_eq a c) (cases_eq a b) (cases_eq b c)
