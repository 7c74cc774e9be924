-- Lemmas that this crate and those above cite.
use Rattle.std.proofs.Common.{All, Bool, List, [], ap, arith, false, length, not, refl, true, ℕ, ◌&&◌, ◌==◌, ◌∷◌, ◌≡◌, ◌≢◌}
use Rattle.std.proofs.lemmas.Bool.{and_from, and_parts, not-true}
use Rattle.std.proofs.lemmas.Bool.Decides.{nat_tests}
use Rattle.std.proofs.lemmas.List.Elements.{All-weaker}
use Rattle.std.proofs.lemmas.List.Splits.{length-slice_split}
use Rattle.std.proofs.lemmas.List.Sums.{AllPass-from_list_all}
use Rattle.std.specs.Char.{is_ascii_digit}
use Rattle.std.specs.List.{list_all}
use Rattle.std.specs.Str.{all_ascii_digits}
use Rattle.text_parts.specs.Parts.{parts_between}

-- a byte that ends neither a word nor a line
abbrev pub is_word_byte : ℕ → Bool
is_word_byte b = not (b == 32) && not (b == 10)

-- numbers are words
pub digits_inner : (ds : List ℕ) → all_ascii_digits ds ≡ true → list_all is_word_byte ds ≡ true
digits_inner [] digits = refl
digits_inner (b ∷ ds) digits =
    let both = and_parts (is_ascii_digit b) (all_ascii_digits ds) digits in
    and_from (is_word_byte b) (list_all is_word_byte ds) (grind (arith, nat_tests, both.0)) (digits_inner ds both.1)

-- no byte of them ends a line
abbrev pub is_line_byte : ℕ → Bool
is_line_byte b = not (b == 10)

-- a word ends no line
pub inner_kept : (word : List ℕ) → list_all is_word_byte word ≡ true → list_all is_line_byte word ≡ true
inner_kept [] inner = refl
inner_kept (b ∷ word) inner =
    let both = and_parts (is_word_byte b) (list_all is_word_byte word) inner in
    and_from (is_line_byte b) (list_all is_line_byte word) (and_parts (not (b == 32)) (is_line_byte b) both.0).1 (inner_kept word both.1)

-- a word has no space
pub no_space : (word : List ℕ) → list_all is_word_byte word ≡ true → All (λ b. (b == 32) ≡ false) word
no_space word inner = All-weaker (λ (b : ℕ). is_word_byte b ≡ true) (λ (b : ℕ). (b == 32) ≡ false)
    (λ b test. not-true (b == 32) (and_parts (not (b == 32)) (not (b == 10)) test).0) word
    (AllPass-from_list_all is_word_byte word inner)

-- there is a part at least
pub some_part : (mark : ℕ) (bytes : List ℕ) → parts_between mark bytes ≢ []
some_part mark bytes none =
    absurd (omega (arith, length-slice_split (λ (b : ℕ). b == mark) bytes, ap length none))
