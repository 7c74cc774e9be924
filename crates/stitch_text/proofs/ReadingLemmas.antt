-- The lines of a text, judged one after another.
use Rattle.std.proofs.Common.{◌≡◌, ◌≢◌, ℕ, ◌+◌, List, [], ◌∷◌, Option, Bool, false, Result, bytes_eq, codes, length, arith}
use Rattle.stitch_text.proofs.Names.{nat_tests, ints, DesignValue, ReadFault, ListDraft, ListLine, parsed_label, parsed_list_line, parsed_list_words, draft_after_line, ParsedList, parsed_acts, parsed_from_block, after_block_line, after_label_line, after_signature_line, ended_list, continued_with, is_end_line, parsed_from_label, with_next_line, parsed_end_or_line, parsed_thread, signature_line, parts_between, words_in, some_part, parsed_from_signature}

-- a line that has an end
pub next_is : (at : ℕ) (d : DesignValue) (text line after : List ℕ) (f : List ℕ → List (List ℕ) → ParsedList)
    → parts_between 10 text ≡ line ∷ parts_between 10 after
    → with_next_line at d (parts_between 10 text) f ≡ f line (parts_between 10 after)
next_is at d text line after f are = grind (arith, nat_tests, some_part)

-- a line of acts that has an end
pub acts_are : (at : ℕ) (draft : ListDraft) (text line after : List ℕ) → parts_between 10 text ≡ line ∷ parts_between 10 after
    → parsed_acts at draft (parts_between 10 text)
    ≡ parsed_end_or_line at draft (parsed_list_line line) (ended_list (at + length line + 1) draft.design (parts_between 10 after))
    (λ new. parsed_acts (at + length line + 1) new (parts_between 10 after))
acts_are at draft text line after are = grind (arith, nat_tests, some_part)

-- four words and more are no line
pub many_words : (word x behind y rest : List ℕ) → words_in behind ≡ y ∷ words_in rest
    → parsed_list_words (word ∷ x ∷ words_in behind) ≡ parsed_list_words []
many_words word x behind y rest are = grind (arith, nat_tests, some_part)

-- another word before two or more is no line
pub other_word : (word x : List ℕ) (words : List (List ℕ)) → words ≢ [] → bytes_eq word (codes "needle") ≡ false
    → bytes_eq word (codes "float") ≡ false → parsed_list_words (word ∷ x ∷ words) ≡ parsed_list_words []
other_word word x words h1 h2 h3 = grind (arith, nat_tests, ints)

-- a line that is judged
pub acts_judged : (at : ℕ) (draft : ListDraft) (text line after : List ℕ) (parsed : Option ListLine)
    (judgement : Result ListDraft ReadFault) (total : ParsedList) → parsed_acts at draft (parts_between 10 text) ≡ total
    → parts_between 10 text ≡ line ∷ parts_between 10 after → parsed ≡ parsed_list_line line → is_end_line parsed ≡ false
    → draft_after_line at draft parsed ≡ judgement
    → continued_with draft judgement (λ new. parsed_acts (at + length line + 1) new (parts_between 10 after)) ≡ total
acts_judged at draft text line after parsed judgement total whole are is other so =
    grind (arith, nat_tests, (acts_are at draft text line after are))

-- the first block
pub block_is : (at : ℕ) (d : DesignValue) (text line after : List ℕ) (thread : Option ℕ)
    → parts_between 10 text ≡ line ∷ parts_between 10 after → thread ≡ parsed_thread (parsed_list_line line)
    → parsed_from_block at d (parts_between 10 text) ≡ after_block_line at d line thread (parts_between 10 after)
block_is at d text line after thread are is = grind (arith, nat_tests, next_is)

-- the label
pub label_is : (at : ℕ) (d : DesignValue) (text line after : List ℕ) (label : Option (List ℕ))
    → parts_between 10 text ≡ line ∷ parts_between 10 after
    → parsed_label line ≡ label → parsed_from_label at d (parts_between 10 text) ≡ after_label_line at d line label (parts_between 10 after)
label_is at d text line after label are is = grind (arith, nat_tests, next_is)

-- the first line
pub first_is : (at : ℕ) (d : DesignValue) (text line after : List ℕ) (first : Bool) → parts_between 10 text ≡ line ∷ parts_between 10 after
    → bytes_eq line signature_line ≡ first → parsed_from_signature at d (parts_between 10 text)
    ≡ after_signature_line at d first line (parts_between 10 after)
first_is at d text line after first are is = grind (arith, nat_tests, next_is)
