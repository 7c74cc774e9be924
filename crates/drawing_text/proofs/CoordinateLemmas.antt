-- A coordinate whose digits are read in one pass.
use Rattle.std.proofs.Common.{◌≡◌, ◌≢◌, ℕ, ℤ, zero, suc, ◌+◌, ◌*◌, ◌<◌, ◌≤◌, ◌==◌, Bool, true, false, List, [], ◌∷◌, Result, Ok, length, take, drop, get_or, sym, ◌∙◌, refl, arith, nat_le, unsigned_abs}
use Rattle.std.proofs.lemmas.Int.Digits.{digits_value_more}
use Rattle.drawing_text.proofs.Names.{and_parts, nat_tests, is_ascii_digit, position_or_len, all_ascii_digits, digits_value, NEEDLE_LIMIT, DrawKind, BeginsWithCoordinate, is_blank_byte, words_of_line, digit_value, is_digit_string, parsed_digits, signed_number, BeginsWithDigits, ends_word, parsed_coordinate}
use Rattle.drawing_text.proofs.WordLemmas.{word_until}

-- one digit more is a digit
pub more_digits : (bs : List ℕ) (i : ℕ) → i < length bs → all_ascii_digits (take i bs) ≡ true → is_ascii_digit (get_or bs i 0) ≡ true
    → all_ascii_digits (take (i + 1) bs) ≡ true
more_digits [] i there so_far next = absurd (omega arith)
more_digits (b ∷ bs) zero there so_far next = rw next refl
more_digits (b ∷ bs) (suc i) there so_far next =
    let parts = and_parts (is_ascii_digit b) (all_ascii_digits (take i bs)) so_far in
    let more : suc i + 1 ≡ suc (i + 1) = omega arith in
    rw (more, parts.0, more_digits bs i (omega arith) parts.1 next) refl

-- and the number has it at its end
pub longer_value : (bs : List ℕ) (i size longer : ℕ) → i < length bs → size ≡ digits_value 10 (take i bs)
    → longer ≡ size * 10 + digit_value (get_or bs i 0) → longer ≡ digits_value 10 (take (i + 1) bs)
longer_value bs i size longer there so_far next = rw (next, so_far, digits_value_more 10 bs i there) refl

-- a digit is no blank
digit_no_blank : (b : ℕ) → is_ascii_digit b ≡ true → is_blank_byte b ≡ false
digit_no_blank b digit = grind (arith, nat_tests)

-- and no minus sign
digit_no_minus : (b : ℕ) → is_ascii_digit b ≡ true → (b == 45) ≡ false
digit_no_minus b digit = grind (arith, nat_tests)

-- the first blank is where the digits end
blank_after : (count : ℕ) (bytes : List ℕ) → count ≤ length bytes → all_ascii_digits (take count bytes) ≡ true
    → ends_word (drop count bytes) ≡ true → position_or_len is_blank_byte bytes ≡ count
blank_after zero [] few digits ends = refl
blank_after zero (b ∷ bytes) few digits ends = rw ends refl
blank_after (suc count) [] few digits ends = absurd (omega arith)
blank_after (suc count) (b ∷ bytes) few digits ends =
    let parts = and_parts (is_ascii_digit b) (all_ascii_digits (take count bytes)) digits in
    rw (digit_no_blank b parts.0, blank_after count bytes (omega arith) parts.1 ends) (omega arith)

-- some digits are a numeral, and all of a numeral are digits
pub digit_string : (count : ℕ) (bytes : List ℕ) → count ≢ 0 → count ≤ length bytes → all_ascii_digits (take count bytes) ≡ true
    → is_digit_string (take count bytes) ≡ true
digit_string zero bytes some few digits = absurd (some refl)
digit_string (suc count) [] some few digits = absurd (omega arith)
digit_string (suc count) (b ∷ bytes) some few digits = digits

all_digits : (bytes : List ℕ) → is_digit_string bytes ≡ true → all_ascii_digits bytes ≡ true
all_digits [] is = refl
all_digits (b ∷ bytes) is = is

-- digits alone are the first word of a line
alone : (count : ℕ) (bytes : List ℕ) (n : ℤ) (rest : List ℕ) → count ≤ length bytes → is_digit_string (take count bytes) ≡ true
    → rest ≡ drop count bytes → ends_word (drop count bytes) ≡ true
    → parsed_coordinate (parsed_digits false (take count bytes)) ≡ Ok n → BeginsWithCoordinate bytes (Ok n) rest
alone zero bytes n rest few digits left ends value = absurd cc
alone (suc count) [] n rest few digits left ends value = absurd cc
alone (suc count) (b ∷ bytes) n rest few digits left ends value =
    let parts = and_parts (is_ascii_digit b) (all_ascii_digits (take count bytes)) digits in
    let at = blank_after count bytes (omega arith) parts.1 ends in
    record {
      word = b ∷ take count bytes;
      words = rw left (word_until b bytes count (digit_no_blank b parts.0) at);
      value = rw (digit_no_minus b parts.0) (sym value);
    }

pub digits_alone : (bytes : List ℕ) (n : ℤ) (rest : List ℕ) → BeginsWithDigits false bytes n rest → BeginsWithCoordinate bytes (Ok n) rest
digits_alone bytes n rest is = alone is.count bytes n rest is.few is.digits is.left is.ends is.value

-- and so are digits behind a minus sign
pub digits_behind_minus : (line bytes : List ℕ) (n : ℤ) (rest : List ℕ) → line ≡ 45 ∷ bytes → BeginsWithDigits true bytes n rest
    → BeginsWithCoordinate line (Ok n) rest
digits_behind_minus line bytes n rest begins is =
    let at = blank_after is.count bytes is.few (all_digits (take is.count bytes) is.digits) is.ends in
    record {
      word = 45 ∷ take is.count bytes;
      words = rw (begins, is.left) (word_until 45 bytes is.count refl at);
      value = sym is.value;
    }

-- the number of digits is the coordinate
within_signed : (minus : Bool) (size : ℕ) → size ≤ NEEDLE_LIMIT → nat_le (unsigned_abs (signed_number minus size)) NEEDLE_LIMIT ≡ true
within_signed true zero within = refl
within_signed true (suc size) within = grind (arith, nat_tests)
within_signed false size within = grind (arith, nat_tests)

coordinate_of : (minus : Bool) (bytes : List ℕ) (size : ℕ) → is_digit_string bytes ≡ true → size ≡ digits_value 10 bytes
    → size ≤ NEEDLE_LIMIT → parsed_coordinate (parsed_digits minus bytes) ≡ Ok (signed_number minus size)
coordinate_of minus bytes size digits value within = grind (arith, nat_tests, within_signed minus size within)

pub begins_with_digits : (minus : Bool) (bytes : List ℕ) (count size : ℕ) (n : ℤ) (rest : List ℕ) → count ≢ 0 → count ≤ length bytes
    → all_ascii_digits (take count bytes) ≡ true → size ≡ digits_value 10 (take count bytes) → size ≤ NEEDLE_LIMIT → rest ≡ drop count bytes
    → ends_word rest ≡ true → n ≡ signed_number minus size → BeginsWithDigits minus bytes n rest
begins_with_digits minus bytes count size n rest some few digits value within left ends is =
    grind (arith, nat_tests, digit_string count bytes some few digits, coordinate_of minus (take count bytes) size)

-- Lines of the same words begin with the same coordinate.
pub same_words : (line from : List ℕ) (answer : Result ℤ DrawKind) (rest : List ℕ) → words_of_line from ≡ words_of_line line
    → BeginsWithCoordinate from answer rest → BeginsWithCoordinate line answer rest
same_words line from answer rest same is = record { word = is.word; words = sym same ∙ is.words; value = is.value }

-- The first five of six bytes or more.
pub first_five : (bytes : List ℕ) (n : ℕ) → 6 ≤ length bytes → n ≤ 5
    → take n (get_or bytes 0 0 ∷ get_or bytes 1 0 ∷ get_or bytes 2 0 ∷ get_or bytes 3 0 ∷ get_or bytes 4 0 ∷ []) ≡ take n bytes
first_five [] n more few = absurd (omega arith)
first_five (a ∷ []) n more few = absurd (omega arith)
first_five (a ∷ (b ∷ [])) n more few = absurd (omega arith)
first_five (a ∷ (b ∷ (c ∷ []))) n more few = absurd (omega arith)
first_five (a ∷ (b ∷ (c ∷ (d ∷ [])))) n more few = absurd (omega arith)
first_five (a ∷ b ∷ c ∷ d ∷ e ∷ bytes) zero more few = refl
first_five (a ∷ b ∷ c ∷ d ∷ e ∷ bytes) (suc zero) more few = refl
first_five (a ∷ b ∷ c ∷ d ∷ e ∷ bytes) (suc (suc zero)) more few = refl
first_five (a ∷ b ∷ c ∷ d ∷ e ∷ bytes) (suc (suc (suc zero))) more few = refl
first_five (a ∷ b ∷ c ∷ d ∷ e ∷ bytes) (suc (suc (suc (suc zero)))) more few = refl
first_five (a ∷ b ∷ c ∷ d ∷ e ∷ bytes) (suc (suc (suc (suc (suc zero))))) more few = refl
first_five (a ∷ b ∷ c ∷ d ∷ e ∷ bytes) (suc (suc (suc (suc (suc (suc n)))))) more few = absurd (omega arith)
