-- The first line of a text, and the first word of a line.
use Rattle.std.proofs.Common.{◌≡◌, ◌≢◌, ℕ, suc, ◌+◌, ◌<◌, ◌≤◌, Bool, true, false, List, [], ◌∷◌, length, take, drop, filter, ap, refl, arith, one-add, length-drop, eq-eqb, subst, get_or, ◌-◌, ◌==◌}
use Rattle.drawing_text.proofs.Names.{nat_tests, position_or_len, is_blank_byte, is_filled, is_line_feed, is_word_byte, text_lines, line_without_return, words_of_line, slice_split}

-- one place more takes and drops one byte more
take_next : (n b : ℕ) (rest : List ℕ) → take (1 + n) (b ∷ rest) ≡ b ∷ take n rest
take_next n b rest = rw (one-add n)

drop_next : (n b : ℕ) (rest : List ℕ) → drop (1 + n) (b ∷ rest) ≡ drop n rest
drop_next n b rest = rw (one-add n)

-- a list with an item is not empty
pub filled : (b : ℕ) (rest : List ℕ) → b ∷ rest ≢ []
filled b rest none = cc

-- the first line of a text that isn't empty ends at the first line feed, or where the text ends
abbrev FirstLine : List ℕ → Type 0
FirstLine text = let end = position_or_len is_line_feed text in
    text_lines text ≡ take end text ∷ text_lines (drop 1 (drop end text))

-- by the test of its first byte
line_by : (t : Bool) (b : ℕ) (rest : List ℕ) → is_line_feed b ≡ t → (rest ≢ [] → FirstLine rest) → FirstLine (b ∷ rest)
line_by true b rest test first = rw test refl
line_by false b [] test first = rw test refl
line_by false b (c ∷ rest) test first = grind (arith, nat_tests, take_next, drop_next)

pub some_line : (text : List ℕ) → text ≢ [] → FirstLine text
some_line [] some = absurd (some refl)
some_line (b ∷ rest) some = line_by (is_line_feed b) b rest refl (some_line rest)

-- the bytes before the first blank are the first part of a line; those after it have the other words
record Parts (line : List ℕ) : Type 0 where
  more : List (List ℕ)
  split : slice_split is_blank_byte line ≡ take (position_or_len is_blank_byte line) line ∷ more
  words : filter is_filled more ≡ words_of_line (drop (position_or_len is_blank_byte line) line)

parts_by : (t : Bool) (b : ℕ) (rest : List ℕ) → is_blank_byte b ≡ t → Parts rest → Parts (b ∷ rest)
parts_by true b rest test parts = record {
  more = slice_split is_blank_byte rest;
  split = rw test refl;
  words = rw (test, test);
}
parts_by false b rest test parts = grind (arith, nat_tests, take_next, drop_next)

parts_of : (line : List ℕ) → Parts line
parts_of [] = record { more = []; split = refl; words = refl }
parts_of (b ∷ rest) = parts_by (is_blank_byte b) b rest refl (parts_of rest)

-- a line that begins with a byte of a word has the word first that ends before the first blank
abbrev FirstWord : List ℕ → Type 0
FirstWord line = let end = position_or_len is_blank_byte line in
    (words_of_line line ≡ take end line ∷ words_of_line (drop end line)) × (1 ≤ end)

first_word : (b : ℕ) (rest : List ℕ) → is_blank_byte b ≡ false → FirstWord (b ∷ rest)
first_word b rest test =
    let parts = parts_of rest in
    let end = position_or_len is_blank_byte rest in
    (rw (test, parts.split, take_next end b rest, drop_next end b rest, parts.words), rw test (omega arith))

-- the first word again, where the number of bytes behind its first one is known
pub word_until : (b : ℕ) (rest : List ℕ) (n : ℕ) → is_blank_byte b ≡ false → position_or_len is_blank_byte rest ≡ n
    → words_of_line (b ∷ rest) ≡ (b ∷ take n rest) ∷ words_of_line (drop n rest)
word_until b rest n test at =
    let parts = parts_of rest in
    rw (← at, test, parts.split, parts.words) refl

-- the bytes before the first byte of a word have no word
abbrev pub start_of : List ℕ → ℕ
start_of line = position_or_len is_word_byte line

words_by : (t : Bool) (b : ℕ) (rest : List ℕ) → is_blank_byte b ≡ t → words_of_line rest ≡ words_of_line (drop (start_of rest) rest)
    → words_of_line (b ∷ rest) ≡ words_of_line (drop (start_of (b ∷ rest)) (b ∷ rest))
words_by true b rest test words = rw (test, drop_next (start_of rest) b rest) words
words_by false b rest test words = rw (test, test)

pub words_skipped : (line : List ℕ) → words_of_line line ≡ words_of_line (drop (start_of line) line)
words_skipped [] = refl
words_skipped (b ∷ rest) = words_by (is_blank_byte b) b rest refl (words_skipped rest)

word_by : (t : Bool) (b : ℕ) (rest : List ℕ) → is_blank_byte b ≡ t
    → (drop (start_of rest) rest ≢ [] → FirstWord (drop (start_of rest) rest))
    → drop (start_of (b ∷ rest)) (b ∷ rest) ≢ [] → FirstWord (drop (start_of (b ∷ rest)) (b ∷ rest))
word_by true b rest test next = rw (test, drop_next (start_of rest) b rest) next
word_by false b rest test next = rw test (λ some. first_word b rest test)

pub some_word : (line : List ℕ) → drop (start_of line) line ≢ [] → FirstWord (drop (start_of line) line)
some_word [] some = absurd (some refl)
some_word (b ∷ rest) some = word_by (is_blank_byte b) b rest refl (some_word rest) some

-- a word at the beginning of a line, and what follows it
pub record Taken (line word rest : List ℕ) : Type 0 where
  pub words : words_of_line line ≡ word ∷ words_of_line rest
  pub shorter : length rest < length line

pub word_taken : (line from word rest : List ℕ) (start end : ℕ) → start ≡ start_of line → from ≡ drop start line → length from ≢ 0
    → end ≡ position_or_len is_blank_byte from → word ≡ take end from → rest ≡ drop end from → Taken line word rest
word_taken line from word rest start end starts are some ends taken left =
    grind (arith, nat_tests, some_word line, words_skipped line, length-drop end from, length-drop start line)

-- a line ends with a carriage return, or with another byte
pub return_dropped : (line : List ℕ) → get_or line (length line - 1) 0 ≡ 13 → take (length line - 1) line ≡ line_without_return line
return_dropped [] ends = refl
return_dropped (b ∷ []) ends = let test : (b == 13) ≡ true = eq-eqb b 13 ends in rw test refl
return_dropped (b ∷ c ∷ rest) ends = grind (arith, nat_tests, return_dropped (c ∷ rest))

pub no_return : (line : List ℕ) → get_or line (length line - 1) 0 ≢ 13 → line ≡ line_without_return line
no_return [] ends = refl
no_return (b ∷ []) ends = let test : (b == 13) ≡ false = grind (arith, nat_tests) in rw test refl
no_return (b ∷ c ∷ rest) ends =
    let before : length (b ∷ c ∷ rest) - 1 ≡ suc (length (c ∷ rest) - 1) = omega arith in
    let Ends : ℕ → Type 0 = λ n. get_or (b ∷ c ∷ rest) n 0 ≢ 13 in
    ap (λ more. b ∷ more) (no_return (c ∷ rest) (subst Ends before ends))
