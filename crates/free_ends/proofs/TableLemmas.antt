-- Tables of distances, as far as they are filled.
use Rattle.std.proofs.Common.{◌≡◌, ◌<◌, ℕ, ◌+◌, ◌==◌, ◌&&◌, ◌||◌, ◌⊎◌, inl, inr, Bool, true, false, cond, nat_lt, arith, refl, sym, ◌∙◌, ap, subst}
use Rattle.free_ends.proofs.Names.{nat_tests, cases_eq, eq-eqb, unequal, HasFilledRow, RowsValue, TableValue, end_distance, entry, is_filled_entry}
use Rattle.odd_sets.specs.Tables.{EntriesAre, after_set}

-- the entries of the first places are filled, with those after them
pub record HasRowsBefore (rows : RowsValue) (n a : ℕ) (t : TableValue) : Type 0 where
  pub places : t.places ≡ n
  pub entries : (x y : ℕ) → x < y → x < a → y < n → entry t x y ≡ end_distance rows x y
  pub none : (x : ℕ) → x < n → entry t x x ≡ 0

-- one more entry of a row is set
pub filled_more : (rows : RowsValue) (a b d : ℕ) (old mid new : TableValue) → a < b → b < old.places → HasFilledRow rows a b old mid
    → new.places ≡ mid.places → EntriesAre new (after_set mid a b d) → d ≡ end_distance rows a b → HasFilledRow rows a (b + 1) old new
filled_more rows a b d old mid new less within filled places entries is = record {
  places = places ∙ filled.places;
  entries = λ x y low y_in. at x y low y_in (cases_eq x a) (cases_eq y b);
  none = λ x x_in. entries x x (omega (arith, filled.places, x_in)) (omega (arith, filled.places, x_in))
      ∙ ap (λ (t : Bool). cond t d (entry mid x x)) (same_place x (cases_eq x a)) ∙ filled.none x x_in;
}
  where
    same_place : (x : ℕ) → (x ≡ a) ⊎ (x ≡ a → ⊥) → ((x == a && x == b) || (x == b && x == a)) ≡ false
    same_place x (inl same) = rw (eq-eqb x a same, unequal x b (λ other. omega (arith, same, other, less))) refl
    same_place x (inr other) = rw (unequal x a other) (none (x == b))
      where
        none : (t : Bool) → (false || (t && false)) ≡ false
        none true = refl
        none false = refl

    at : (x y : ℕ) → x < y → y < old.places → (x ≡ a) ⊎ (x ≡ a → ⊥) → (y ≡ b) ⊎ (y ≡ b → ⊥)
        → entry new x y ≡ cond (is_filled_entry a (b + 1) x y) (end_distance rows x y) (entry old x y)
    at x y low y_in one other = entries x y (omega (arith, filled.places, low, y_in)) (omega (arith, filled.places, y_in)) ∙ go one other
      where
        before : (t : Bool) → (x == a) ≡ t → nat_lt y b ≡ nat_lt y (b + 1) → entry mid x y
            ≡ cond (is_filled_entry a (b + 1) x y) (end_distance rows x y) (entry old x y)
        before t here same = filled.entries x y low y_in
            ∙ ap (λ (s : Bool). cond (x == a && s) (end_distance rows x y) (entry old x y)) same

        go : (x ≡ a) ⊎ (x ≡ a → ⊥) → (y ≡ b) ⊎ (y ≡ b → ⊥)
            → after_set mid a b d x y ≡ cond (is_filled_entry a (b + 1) x y) (end_distance rows x y) (entry old x y)
        go (inl here) (inl there) =
            let next : nat_lt y (b + 1) ≡ true = grind (arith, nat_tests, there) in
            let value : d ≡ end_distance rows x y = is ∙ ap (λ (k : ℕ). end_distance rows k b) (sym here)
            ∙ ap (end_distance rows x) (sym there) in
            rw (eq-eqb x a here, eq-eqb y b there, next) value
        go (inl here) (inr aside) =
            let next : nat_lt y b ≡ nat_lt y (b + 1) = grind (arith, nat_tests, aside) in
            let back : (x == b) ≡ false = unequal x b (λ same. omega (arith, here, same, less)) in
            rw (eq-eqb x a here, unequal y b aside, back)
            (subst (λ (s : Bool). entry mid x y ≡ cond (s && nat_lt y (b + 1)) (end_distance rows x y)
            (entry old x y)) (eq-eqb x a here) (before true (eq-eqb x a here) next))
        go (inr aside) other = off (x == b && y == a) (backwards (cases_eq x b))
          where
            backwards : (x ≡ b) ⊎ (x ≡ b → ⊥) → (x == b && y == a) ≡ false
            backwards (inl same) = rw (unequal y a (λ also. omega (arith, same, also, low, less))) (none (x == b))
              where
                none : (t : Bool) → (t && false) ≡ false
                none true = refl
                none false = refl
            backwards (inr apart) = rw (unequal x b apart) refl

            off : (t : Bool) → t ≡ false
                → cond ((x == a && y == b) || t) d (entry mid x y) ≡ cond (is_filled_entry a (b + 1) x y) (end_distance rows x y)
                (entry old x y)
            off t none = rw (none, unequal x a aside) (filled.entries x y low y_in
                ∙ ap (λ (s : Bool). cond (s && nat_lt y b) (end_distance rows x y) (entry old x y)) (unequal x a aside))
