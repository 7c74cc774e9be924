-- Numbers, passes and members as words: the meaning of a word, and the text of that meaning.
use Rattle.std.proofs.Common.{◌≡◌, ℕ, ◌+◌, ◌-◌, ◌<◌, ◌^◌, ◌==◌, Bool, true, false, nat_lt, List, [], ◌∷◌, ◌++◌, Option, None, Some, option_map, length, get_or, decimal, if◌then◌else◌, subst, ap, sym, refl, ◌∙◌, inl, inr, arith}
use Rattle.std.specs.Str.Parse.{digits_value}
use Rattle.certificate_text.proofs.Names.{and_from, and_parts, nat_tests, decimal_nonempty, digits_decimal, none-some, same_Some, is_ascii_digit, flat_map, option_and_then, all_ascii_digits, Pass, parsed_number_above, parsed_cert_number, parsed_pass_along, parsed_pass, pass_text, decimal_model, cases_order, decimal-digits_value, decimal_digit, digits_value-decimal, first_decimal, cond_some, is_canonical_numeral, small_number, false_true}

-- the parts of a result that is present
pub if_some : {A : Type 0} (test : Bool) (o : Option A) (a : A) → (if test then o else None) ≡ Some a → (test ≡ true) × (o ≡ Some a)
if_some true o a is = (refl, is)
if_some false o a is = absurd (none-some a is)

-- the same of a mapped answer
pub map_some : {A B P : Type 0} (f : A → B) (o : Option A) (b : B) → option_map f o ≡ Some b → ((a : A) → o ≡ Some a → f a ≡ b → P) → P
map_some f None b is next = absurd (none-some b is)
map_some f (Some a) b is next = next a refl (same_Some (f a) b is)

-- and of one after another
pub then_some : {A B P : Type 0} (f : A → Option B) (o : Option A) (b : B) → option_and_then f o ≡ Some b
    → ((a : A) → o ≡ Some a → f a ≡ Some b → P) → P
then_some f None b is next = absurd (none-some b is)
then_some f (Some a) b is next = next a refl is

-- a numeral without leading zeros
record IsPlain (word : List ℕ) : Type 0 where
  digits : all_ascii_digits word ≡ true
  some : 0 < length word
  lead : get_or word 0 0 ≡ 48 → length word ≡ 1

-- the result of the test of a numeral
plain_is : (word : List ℕ) → is_canonical_numeral word ≡ true → IsPlain word
plain_is [] is = absurd (false_true is)
plain_is (b ∷ []) is = record { digits = and_from (is_ascii_digit b) true is refl; some = omega arith; lead = λ zero. refl }
plain_is (b ∷ c ∷ rest) is = grind (arith, nat_tests)

-- digits after one that is no zero are such a numeral
plain_from : (word : List ℕ) → all_ascii_digits word ≡ true → 0 < length word → 48 < get_or word 0 0 → is_canonical_numeral word ≡ true
plain_from [] digits some lead = absurd (omega arith)
plain_from (b ∷ []) digits some lead = (and_parts (is_ascii_digit b) true digits).0
plain_from (b ∷ c ∷ rest) digits some lead = grind (arith, nat_tests)

-- the numeral of a number has no leading zero
decimal_plain : (n : ℕ) → n < 2 ^ 64 → is_canonical_numeral (decimal n) ≡ true
decimal_plain n small = elim (cases_order n 0) [
  | inl none ↦ rw (none, decimal_digit 0 (omega arith)) refl
  | inr (inl less) ↦ absurd (omega (arith, less))
  | inr (inr more) ↦
      plain_from (decimal n) (digits_decimal decimal_model n small) (decimal_nonempty n small) (first_decimal n more small)
]

-- a number is read from its numeral
pub number_read : (n : ℕ) → n < 2 ^ 32 → parsed_cert_number (decimal n) ≡ Some n
number_read n small = grind (arith, nat_tests, decimal_plain, digits_value-decimal, decimal_model)

-- a word that denotes this number
pub record Spells (word : List ℕ) (n : ℕ) : Type 0 where
  pub is : decimal n ≡ word
  pub small : n < 2 ^ 32

-- the number that is read from a word is the one that it denotes
pub number_is : (word : List ℕ) (n : ℕ) → parsed_cert_number word ≡ Some n → Spells word n
number_is word n says =
    let plain = if_some (is_canonical_numeral word) (small_number (digits_value 10 word)) n says in
    let value = cond_some (nat_lt (digits_value 10 word) (2 ^ 32)) (digits_value 10 word) n plain.1 in
    let small : digits_value 10 word < 2 ^ 32 = grind (arith, nat_tests, value.0) in
    let parts = plain_is word plain.0 in
    record {
      is = ap decimal (sym value.1)
          ∙ decimal-digits_value decimal_model word parts.digits parts.some parts.lead (omega (arith, small));
      small = omega (arith, small, value.1);
    }

-- the same of numbers above one
pub above_read : (least n : ℕ) → least < n → n < 2 ^ 32 → parsed_number_above least (decimal n) ≡ Some n
above_read least n more small = grind (arith, nat_tests, number_read)

-- and so is one above another
pub above_is : (least : ℕ) (word : List ℕ) (n : ℕ) → parsed_number_above least word ≡ Some n → (least < n) × Spells word n
above_is least word n says =
    then_some (λ number. if nat_lt least number then Some number else None) (parsed_cert_number word) n says (λ number read found.
    let both = cond_some (nat_lt least number) number n found in (
      grind (arith, nat_tests, both.0, both.1),
      number_is word n (read ∙ ap (λ one. Some one) both.1),
    ))

-- further words of a line, each after a space
abbrev pub spaced : List (List ℕ) → List ℕ
spaced words = flat_map (λ (word : List ℕ). 32 ∷ word) words

-- a pass, and the word that denotes it
abbrev pub pass_word : Pass → List ℕ
pass_word pass = (if pass.back then 45 ∷ [] else []) ++ decimal (pass.line + 1)

-- the text of a pass is its word after a space
pub pass_spaced : (pass : Pass) → pass_text pass ≡ 32 ∷ pass_word pass
pass_spaced pass = grind (arith, nat_tests)

-- the pass that a word denotes
pub record SaysPass (word : List ℕ) (pass : Pass) : Type 0 where
  pub is : pass_word pass ≡ word
  pub fits : pass.line + 1 < 2 ^ 32

-- a pass that is read from a number
along_is : (back : Bool) (word : List ℕ) (pass : Pass) → parsed_pass_along back word ≡ Some pass
    → SaysPass ((if back then 45 ∷ [] else []) ++ word) pass
along_is back word pass says =
    map_some (λ (number : ℕ). record { line = number - 1; back = back }) (parsed_number_above 0 word) pass says (λ number read made.
    let spells = above_is 0 word number read in
    let next : number - 1 + 1 ≡ number = omega (arith, spells.0) in
    subst (λ (one : Pass). SaysPass ((if back then 45 ∷ [] else []) ++ word) one) made (record {
      is = ap (λ (n : ℕ). (if back then 45 ∷ [] else []) ++ decimal n) next
          ∙ ap (λ (w : List ℕ). (if back then 45 ∷ [] else []) ++ w) spells.1.is;
      fits = omega (arith, next, spells.1.small);
    }))

-- a pass that is read from a word
pub pass_is : (word : List ℕ) (pass : Pass) → parsed_pass word ≡ Some pass → SaysPass word pass
pass_is [] pass says = absurd (none-some pass says)
pass_is (b ∷ rest) pass says = by_sign (b == 45) refl where
  by_sign : (minus : Bool) → (b == 45) ≡ minus → SaysPass (b ∷ rest) pass
  by_sign true is =
      let first : b ≡ 45 = grind (arith, nat_tests, is) in
      subst (λ (one : ℕ). SaysPass (one ∷ rest) pass) (sym first) (along_is true rest pass (rw is at says))
  by_sign false is = along_is false (b ∷ rest) pass (rw is at says)
