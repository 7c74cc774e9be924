-- Numbers as words: what is printed is read again.
use Rattle.std.proofs.Common.{◌≡◌, ℕ, ℤ, pos, negsuc, suc, ◌<◌, ◌^◌, true, unsigned_abs, List, [], ◌∷◌, length, refl, arith}
use Rattle.std.proofs.lemmas.Fmt.{decimal_nonempty, digits_decimal}
use Rattle.drawing_text.proofs.Names.{and_from, and_parts, nat_tests, is_ascii_digit, decimal, signed_decimal, list_all, all_ascii_digits, is_filled, decimal_model}
use Rattle.drawing_text.proofs.PrintedWords.{IsWord, is_printed_byte}

digits_printed : (ds : List ℕ) → all_ascii_digits ds ≡ true → list_all is_printed_byte ds ≡ true
digits_printed [] digits = refl
digits_printed (b ∷ ds) digits =
    let both = and_parts (is_ascii_digit b) (all_ascii_digits ds) digits in
    and_from (is_printed_byte b) (list_all is_printed_byte ds) (grind (arith, nat_tests, both.0)) (digits_printed ds both.1)

filled_some : (ds : List ℕ) → 0 < length ds → is_filled ds ≡ true
filled_some [] some = absurd (omega arith)
filled_some (b ∷ ds) some = refl

-- a number is a word
pub decimal_word : (n : ℕ) → n < 2 ^ 64 → IsWord (decimal n)
decimal_word n small = record {
  filled = filled_some (decimal n) (decimal_nonempty n small);
  inner = digits_printed (decimal n) (digits_decimal decimal_model n small);
}

pub signed_word : (z : ℤ) → unsigned_abs z < 2 ^ 64 → IsWord (signed_decimal z)
signed_word (pos n) small = decimal_word n small
signed_word (negsuc n) small = grind (arith, nat_tests, decimal_word (suc n) small)
