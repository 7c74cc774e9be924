-- Numbers as words: the number of a word, and the canonical word of a number.
use Rattle.std.proofs.Common.{◌≡◌, ℕ, ℤ, pos, negsuc, zero, suc, ◌<◌, ◌≤◌, ◌^◌, ◌==◌, ◌||◌, Bool, true, false, not, unsigned_abs, List, [], ◌∷◌, length, get_or, if◌then◌else◌, subst, ap, sym, refl, ◌∙◌, inl, inr, arith}
use Rattle.std.specs.Fmt.{decimal}
use Rattle.std.specs.Str.{all_ascii_digits}
use Rattle.std.specs.Str.Parse.{digits_value}
use Rattle.stitch_text.proofs.Names.{ints, not-true, nat_tests, signed_decimal, list_all, canonical_number_of, is_word_byte, cases_order, decimal-digits_value, decimal_digit, digits_decimal, first_decimal, has_leading_zero, is_canonical_number, decimal_model, signed_read, digits_inner}
use Rattle.design_model.specs.declared.whole_number.Whole.TheVariants as whole
use Rattle.design_model.specs.WholeNumbers.{is_digit_string, signed_number, parsed_digits, parsed_whole}

-- and so is a number
pub signed_inner : (z : ℤ) → unsigned_abs z < 2 ^ 63 → list_all is_word_byte (signed_decimal z) ≡ true
signed_inner (pos n) small = digits_inner (decimal n) (digits_decimal decimal_model n (omega (arith, small)))
signed_inner (negsuc n) small = digits_inner (decimal (suc n)) (digits_decimal decimal_model (suc n) (omega (arith, small)))

-- digits begin with no minus sign
no_minus : (ds : List ℕ) → all_ascii_digits ds ≡ true → 0 < length ds → parsed_whole ds ≡ parsed_digits false ds
no_minus ds h1 h2 = grind (arith, nat_tests, ints)

-- digits that begin above zero
above_zero : (ds : List ℕ) → 48 < get_or ds 0 0 → has_leading_zero ds ≡ false
above_zero ds h1 = grind (arith, nat_tests, ints)

plain_above_zero : (ds : List ℕ) → 48 < get_or ds 0 0 → is_canonical_number ds ≡ true
plain_above_zero ds h1 = grind (arith, nat_tests, ints)

-- the canonical text of a number has no leading zero
signed_plain : (z : ℤ) → unsigned_abs z ≤ 999999999 → is_canonical_number (signed_decimal z) ≡ true
signed_plain (pos n) small = elim (cases_order n 0) [
  | inl none ↦ rw (none, decimal_digit 0 (omega arith)) refl
  | inr (inl less) ↦ absurd (omega (arith, less))
  | inr (inr more) ↦ plain_above_zero (decimal n) (first_decimal n more (omega (arith, small)))
]
signed_plain (negsuc n) small =
    ap not (above_zero (decimal (suc n)) (first_decimal (suc n) (omega arith) (omega (arith, small))))

-- a number is read from its canonical text
pub number_read : (z : ℤ) → unsigned_abs z ≤ 999999999 → canonical_number_of (signed_decimal z) ≡ whole.Value z
number_read z small =
    ap (λ (plain : Bool). if plain then parsed_whole (signed_decimal z) else whole.NotANumber) (signed_plain z small) ∙ signed_read z small

-- a word that is parsed as this number
pub record Spells (word : List ℕ) (z : ℤ) : Type 0 where
  pub is : signed_decimal z ≡ word
  pub small : unsigned_abs z ≤ 999999999

same_value : (y z : ℤ) → whole.Value y ≡ whole.Value z → y ≡ z
same_value y z is = cc

-- what digits that are read stand on
record AreRead (minus : Bool) (ds : List ℕ) (z : ℤ) : Type 0 where
  numeral : is_digit_string ds ≡ true
  small : digits_value 10 ds ≤ 999999999
  value : signed_number minus (digits_value 10 ds) ≡ z

-- digits without a leading zero are the canonical text of their number
digits_spelled : (ds : List ℕ) → is_digit_string ds ≡ true → (get_or ds 0 0 ≡ 48 → length ds ≡ 1) → digits_value 10 ds ≤ 999999999
    → decimal (digits_value 10 ds) ≡ ds
digits_spelled [] numeral lead small = absurd (let no : ⊥ = cc in no)
digits_spelled (b ∷ ds) numeral lead small =
    decimal-digits_value decimal_model (b ∷ ds) numeral (omega arith) lead (omega (arith, small))

-- a number after a minus sign
minus_is : (ds : List ℕ) (z : ℤ) → has_leading_zero ds ≡ false → AreRead true ds z → Spells (45 ∷ ds) z
minus_is ds z lead read =
    let text = digits_spelled ds read.numeral (λ first. absurd (no_zero ds read.numeral lead first)) read.small in
    by_value (digits_value 10 ds) text read.value read.small where
      no_zero : (ds : List ℕ) → is_digit_string ds ≡ true → has_leading_zero ds ≡ false → get_or ds 0 0 ≡ 48 → ⊥
      no_zero [] numeral lead first = cc
      no_zero (b ∷ ds) numeral lead first = grind (arith, nat_tests, lead, first)

      zero_first : (ds : List ℕ) → decimal 0 ≡ ds → has_leading_zero ds ≡ true
      zero_first ds is = sym (ap has_leading_zero (sym (decimal_digit 0 (omega arith)) ∙ is))

      false_true : false ≡ true → ⊥
      false_true is = cc

      by_value : (n : ℕ) → decimal n ≡ ds → signed_number true n ≡ z → n ≤ 999999999 → Spells (45 ∷ ds) z
      by_value zero is value small = absurd (false_true (sym lead ∙ zero_first ds is))
      by_value (suc n) is value small =
          subst (λ z. Spells (45 ∷ ds) z) value (record { is = ap (λ (ds : List ℕ). 45 ∷ ds) is; small = small })

-- a number without one
plus_is : (b : ℕ) (ds : List ℕ) (z : ℤ) → (not (b == 48) || length ds == 0) ≡ true → AreRead false (b ∷ ds) z → Spells (b ∷ ds) z
plus_is b ds z lead read =
    let text = digits_spelled (b ∷ ds) read.numeral (λ first. grind (arith, nat_tests, lead, first)) read.small in
    subst (λ z. Spells (b ∷ ds) z) read.value (record { is = text; small = read.small })

-- a word is the canonical text of the number that is read from it
pub number_is : (word : List ℕ) (z : ℤ) → canonical_number_of word ≡ whole.Value z → Spells word z
number_is [] z says = absurd (grind (arith, nat_tests))
number_is (b ∷ ds) z says = by_tests (is_canonical_number (b ∷ ds)) (b == 45) refl refl where
  by_tests : (plain minus : Bool) → is_canonical_number (b ∷ ds) ≡ plain → (b == 45) ≡ minus → Spells (b ∷ ds) z
  by_tests false minus is sign = absurd (grind (arith, nat_tests, (rw is at says)))
  by_tests true true is sign =
      let first : b ≡ 45 = grind (arith, nat_tests, sign) in
      let lead : not (has_leading_zero ds) ≡ true = rw sign at is in
      let read : parsed_digits true ds ≡ whole.Value z = rw (is, sign) at says in
      subst (λ (b : ℕ). Spells (b ∷ ds) z) (sym first) (minus_is ds z (not-true (has_leading_zero ds) lead) (grind (arith, nat_tests)))
  by_tests true false is sign =
      let lead : (not (b == 48) || length ds == 0) ≡ true = rw sign at is in
      let read : parsed_digits false (b ∷ ds) ≡ whole.Value z = rw (is, sign) at says in
      plus_is b ds z lead (grind (arith, nat_tests))
