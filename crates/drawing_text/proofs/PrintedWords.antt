-- Words that stand one space apart, and the lines that they make.
use Rattle.std.proofs.Common.{arith, ◌≡◌, ℕ, Bool, true, false, not, ◌==◌, ◌||◌, ◌&&◌, List, [], ◌∷◌, ◌++◌, map, All, ap, sym, ◌∙◌, refl, append_assoc, append-nil}
use Rattle.std.proofs.lemmas.List.Splits.{slice_split_at, slice_split_none}
use Rattle.drawing_text.proofs.Names.{nat_tests, and_from, and_parts, or_parts, All-weaker, list_all, is_blank_byte, is_filled, is_line_feed, text_lines, line_without_return, words_by_line, words_of_line, not-true, list_all-append, AllPass-from_list_all}

-- a byte that ends no line, and is no carriage return
abbrev is_inner_byte : ℕ → Bool
is_inner_byte b = not (is_line_feed b || b == 13)

-- a byte that ends neither a line nor a word
abbrev pub is_printed_byte : ℕ → Bool
is_printed_byte b = not (is_blank_byte b) && is_inner_byte b

-- a word that can be printed
pub record IsWord (word : List ℕ) : Type 0 where
  pub filled : is_filled word ≡ true
  pub inner : list_all is_printed_byte word ≡ true

abbrev pub AreWords : List (List ℕ) → Type 0
AreWords [] = Unit {0}
AreWords (word ∷ words) = IsWord word × AreWords words

-- further words of a line, each after a space, and the end of the line
abbrev pub tail_of : List (List ℕ) → List ℕ
tail_of [] = 10 ∷ []
tail_of (word ∷ words) = 32 ∷ (word ++ tail_of words)

-- the same without the end
abbrev spaced : List (List ℕ) → List ℕ
spaced [] = []
spaced (word ∷ words) = 32 ∷ (word ++ spaced words)

tail_parts : (words : List (List ℕ)) (rest : List ℕ) → tail_of words ++ rest ≡ spaced words ++ 10 ∷ rest
tail_parts [] rest = refl
tail_parts (word ∷ words) rest =
    grind (arith, nat_tests, append_assoc word (tail_of words) rest, tail_parts words rest, append_assoc word (spaced words) (10 ∷ rest))

-- bytes that end no line are on one line
line_cut : (line rest : List ℕ) → list_all is_inner_byte line ≡ true → text_lines (line ++ 10 ∷ rest) ≡ line ∷ text_lines rest
line_cut [] rest kept = refl
line_cut (b ∷ line) rest kept =
    let both = and_parts (is_inner_byte b) (list_all is_inner_byte line) kept in
    let test = (or_parts (is_line_feed b) (b == 13) (not-true _ both.0)).0 in
    rw (test, line_cut line rest both.1)

return_kept : (line : List ℕ) → list_all is_inner_byte line ≡ true → line_without_return line ≡ line
return_kept [] kept = refl
return_kept (b ∷ []) kept = grind (arith, nat_tests, and_parts (is_inner_byte b) true kept, or_parts (is_line_feed b) (b == 13), not-true)
return_kept (b ∷ c ∷ line) kept =
    grind (arith, nat_tests, and_parts (is_inner_byte b) (list_all is_inner_byte (c ∷ line)) kept, return_kept (c ∷ line))

-- the bytes of words end no line
word_on_line : (word : List ℕ) → list_all is_printed_byte word ≡ true → list_all is_inner_byte word ≡ true
word_on_line [] inner = refl
word_on_line (b ∷ word) inner =
    let both = and_parts (is_printed_byte b) (list_all is_printed_byte word) inner in
    and_from (is_inner_byte b) (list_all is_inner_byte word)
    (and_parts (not (is_blank_byte b)) (is_inner_byte b) both.0).1 (word_on_line word both.1)

kept_on : (first second : List ℕ) → list_all is_inner_byte first ≡ true → list_all is_inner_byte second ≡ true
    → list_all is_inner_byte (first ++ second) ≡ true
kept_on first second one other =
    list_all-append is_inner_byte first second ∙ and_from (list_all is_inner_byte first) (list_all is_inner_byte second) one other

words_on_line : (words : List (List ℕ)) → AreWords words → list_all is_inner_byte (spaced words) ≡ true
words_on_line [] are = refl
words_on_line (word ∷ words) are = kept_on word (spaced words) (word_on_line word are.0.inner) (words_on_line words are.1)

-- no byte of a word is a blank
no_blank : (word : List ℕ) → list_all is_printed_byte word ≡ true → All (λ b. is_blank_byte b ≡ false) word
no_blank word inner = All-weaker (λ (b : ℕ). is_printed_byte b ≡ true) (λ (b : ℕ). is_blank_byte b ≡ false)
    (λ b test. not-true (is_blank_byte b) (and_parts (not (is_blank_byte b)) (is_inner_byte b) test).0) word
    (AllPass-from_list_all is_printed_byte word inner)

-- a word before a space, and a word before the end
word_cut : (word rest : List ℕ) → IsWord word → words_of_line (word ++ 32 ∷ rest) ≡ word ∷ words_of_line rest
word_cut word rest is =
    grind (arith, nat_tests, slice_split_at is_blank_byte word 32 rest (no_blank word is.inner) refl, no_blank word is.inner)

last_word : (word : List ℕ) → IsWord word → words_of_line word ≡ word ∷ []
last_word word is = grind (arith, nat_tests, slice_split_none is_blank_byte word (no_blank word is.inner), no_blank word is.inner)

spaced_words : (word : List ℕ) (words : List (List ℕ)) → IsWord word → AreWords words → words_of_line (word ++ spaced words) ≡ word ∷ words
spaced_words word [] is are = ap words_of_line (append-nil word) ∙ last_word word is
spaced_words word (next ∷ words) is are =
    word_cut word (next ++ spaced words) is ∙ ap (λ more. word ∷ more) (spaced_words next words are.0 are.1)

-- the words of a line are read as they were printed
pub line_read : (word : List ℕ) (words : List (List ℕ)) (rest : List ℕ) → IsWord word → AreWords words
    → words_by_line (word ++ (tail_of words ++ rest)) ≡ (word ∷ words) ∷ words_by_line rest
line_read word words rest is are =
    let line : List ℕ = word ++ spaced words in
    let kept = kept_on word (spaced words) (word_on_line word is.inner) (words_on_line words are) in
    let whole : word ++ (tail_of words ++ rest) ≡ line ++ 10 ∷ rest =
    ap (λ more. word ++ more) (tail_parts words rest) ∙ sym (append_assoc word (spaced words) (10 ∷ rest)) in
    let first : words_of_line (line_without_return line) ≡ word ∷ words =
    ap words_of_line (return_kept line kept) ∙ spaced_words word words is are in
    ap words_by_line whole
    ∙ (ap (λ lines. map (λ (one : List ℕ). words_of_line (line_without_return one)) lines) (line_cut line rest kept)
    ∙ ap (λ (one : List (List ℕ)). one ∷ words_by_line rest) first)
