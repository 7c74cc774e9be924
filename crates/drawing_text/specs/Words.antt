-- The lines of a text and the words of a line, as bytes of ASCII.
use Rattle.std.specs.Prelude.{ℕ, Bool, true, false, not, ◌==◌, ◌||◌, List, [], ◌∷◌, Option, Some, None, filter, map, if◌then◌else◌}
use Rattle.std.specs.List.{onto_first, slice_split}

-- A byte that ends a line.
abbrev pub is_line_feed : ℕ → Bool
is_line_feed b = b == 10

-- The lines of a text. The byte 10 ends each line, and bytes after the last of these are a line
-- too.
abbrev pub text_lines : List ℕ → List (List ℕ)
text_lines [] = []
text_lines (b ∷ rest) = if is_line_feed b then [] ∷ text_lines rest
    else onto_first b (text_lines rest)

-- A line without the byte 13 at its end, if it has one.
abbrev pub line_without_return : List ℕ → List ℕ
line_without_return [] = []
line_without_return (b ∷ []) = if b == 13 then [] else b ∷ []
line_without_return (b ∷ c ∷ rest) = b ∷ line_without_return (c ∷ rest)

-- A byte that separates words: a space or a tab.
abbrev pub is_blank_byte : ℕ → Bool
is_blank_byte b = b == 32 || b == 9

-- A byte of a word.
abbrev pub is_word_byte : ℕ → Bool
is_word_byte b = not (is_blank_byte b)

-- A list has an item.
abbrev pub is_filled : List ℕ → Bool
is_filled [] = false
is_filled (b ∷ rest) = true

-- The words of a line, which spaces and tabs separate.
abbrev pub words_of_line : List ℕ → List (List ℕ)
words_of_line line = filter is_filled (slice_split is_blank_byte line)

-- The words of each line of a text.
abbrev pub words_by_line : List ℕ → List (List (List ℕ))
words_by_line text = map (λ line. words_of_line (line_without_return line)) (text_lines text)

-- The only word of a list, if there is exactly one.
abbrev pub single_word : List (List ℕ) → Option (List ℕ)
single_word (word ∷ []) = Some word
single_word words = None

-- A word begins a comment: it begins with a hash sign.
abbrev pub begins_comment : List ℕ → Bool
begins_comment [] = false
begins_comment (b ∷ rest) = b == 35

-- A line is ignored: it has no words, or it is a comment.
abbrev pub is_ignored_line : List (List ℕ) → Bool
is_ignored_line [] = true
is_ignored_line (word ∷ rest) = begins_comment word
