-- Comments are put before lines, and change none of them.
use Rattle.std.proofs.Common.{◌≡◌, ◌≢◌, ℕ, suc, ◌-◌, ◌==◌, Bool, true, false, not, cond, eq-eqb, get_or, take, List, [], ◌∷◌, ◌++◌, Option, Some, None, All, drop, filter, length, map, refl, ap, sym, subst, ◌∙◌, append_assoc, arith}
use Rattle.std.proofs.lemmas.List.{append-nil}
use Rattle.design_model.proofs.ListLemmas.{same_number}
use Rattle.std.proofs.lemmas.Bool.Decides.{nat_tests}
use Rattle.std.proofs.lemmas.List.Elements.{All-append, All-cons, All-head, All-nil, All-tail}
use Rattle.std.proofs.lemmas.List.Splits.{slice_split_at, slice_split_none}
use Rattle.std.specs.List.{onto_first, slice_split}
use Rattle.drawing_comments.specs.CommentLaws.{AreComments, AreTextComments, CommentsKeepLines, FoundAreComments, spoken_lines}
use Rattle.drawing_comments.specs.CommentedTexts.{comment_at, comment_line, comments_after, comments_by, comments_by_mark, comments_from, comments_left, comments_past, first_comment, line_mark, lines_with, no_comments, other_found}
use Rattle.drawing_comments.specs.declared.text_comments.TextComments.{TextComments}
use Rattle.drawing_text.specs.Words.{is_blank_byte, is_filled, is_ignored_line, line_without_return, text_lines, words_of_line}
use Rattle.text_parts.specs.Parts.{parts_between}

-- The words of a line.
abbrev words_in_line : List ℕ → List (List ℕ)
words_in_line line = words_of_line (line_without_return line)

-- The words of lines that aren't empty or comments.
abbrev spoken : List (List ℕ) → List (List (List ℕ))
spoken lines = filter (λ words. not (is_ignored_line words)) (map words_in_line lines)

spoken_more : (line : List ℕ) (ls ms : List (List ℕ)) → spoken ls ≡ spoken ms → spoken (line ∷ ls) ≡ spoken (line ∷ ms)
spoken_more line ls ms same = by_test (not (is_ignored_line (words_in_line line)))
  where
    by_test : (t : Bool) → cond t (words_in_line line ∷ spoken ls) (spoken ls) ≡ cond t (words_in_line line ∷ spoken ms) (spoken ms)
    by_test true = ap (λ (rest : List (List (List ℕ))). words_in_line line ∷ rest) same
    by_test false = same

-- a line feed
abbrev is_feed : ℕ → Bool
is_feed b = b == 10

-- The parts of a text between line feeds are its lines, and perhaps an empty part after them.
record Parts (text : List ℕ) : Type 0 where
  extra : List (List ℕ)
  is : parts_between 10 text ≡ text_lines text ++ extra
  unspoken : spoken extra ≡ []

-- a first line
record Begins (lines : List (List ℕ)) : Type 0 where
  first : List ℕ
  more : List (List ℕ)
  is : lines ≡ first ∷ more

some_lines : (b : ℕ) (rest : List ℕ) → Begins (text_lines (b ∷ rest))
some_lines b rest = by_test (b == 10) (text_lines rest)
  where
    by_test : (t : Bool) (lines : List (List ℕ)) → Begins (cond t ([] ∷ text_lines rest) (onto_first b lines))
    by_test true lines = record { first = []; more = text_lines rest; is = refl }
    by_test false [] = record { first = b ∷ []; more = []; is = refl }
    by_test false (line ∷ lines) = record { first = b ∷ line; more = lines; is = refl }

some_parts : (text : List ℕ) → Begins (parts_between 10 text)
some_parts [] = record { first = []; more = []; is = refl }
some_parts (b ∷ rest) = by_test (b == 10) (parts_between 10 rest)
  where
    by_test : (t : Bool) (parts : List (List ℕ)) → Begins (cond t ([] ∷ parts_between 10 rest) (onto_first b parts))
    by_test true parts = record { first = []; more = parts_between 10 rest; is = refl }
    by_test false [] = record { first = b ∷ []; more = []; is = refl }
    by_test false (part ∷ parts) = record { first = b ∷ part; more = parts; is = refl }

-- no line begins an empty list
none_begins : (first : List ℕ) (more : List (List ℕ)) → [] ≡ first ∷ more → ⊥
none_begins first more is = cc

onto_append : (b : ℕ) (lines extra : List (List ℕ)) → Begins lines → onto_first b (lines ++ extra) ≡ onto_first b lines ++ extra
onto_append b [] extra begins = absurd (none_begins begins.first begins.more begins.is)
onto_append b (line ∷ lines) extra begins = refl

text_parts_are : (text : List ℕ) → Parts text
text_parts_are [] = record { extra = [] ∷ []; is = refl; unspoken = refl }
text_parts_are (b ∷ []) = by_test (b == 10) refl
  where
    by_test : (t : Bool) → (b == 10) ≡ t → Parts (b ∷ [])
    by_test true is = record { extra = [] ∷ []; is = rw is refl; unspoken = refl }
    by_test false is = record { extra = []; is = rw is refl; unspoken = refl }
text_parts_are (b ∷ c ∷ rest) = by_test (b == 10) refl (text_parts_are (c ∷ rest))
  where
    by_test : (t : Bool) → (b == 10) ≡ t → Parts (c ∷ rest) → Parts (b ∷ c ∷ rest)
    by_test true is parts = record {
      extra = parts.extra;
      is = rw is (ap (λ (ls : List (List ℕ)). [] ∷ ls) parts.is);
      unspoken = parts.unspoken;
    }
    by_test false is parts = record {
      extra = parts.extra;
      is = rw is (ap (onto_first b) parts.is ∙ onto_append b (text_lines (c ∷ rest)) parts.extra (some_lines c rest));
      unspoken = parts.unspoken;
    }

spoken_append : (ls ms : List (List ℕ)) → spoken (ls ++ ms) ≡ spoken ls ++ spoken ms
spoken_append [] ms = refl
spoken_append (line ∷ ls) ms = by_test (not (is_ignored_line (words_in_line line))) (spoken_append ls ms)
  where
    by_test : (t : Bool) → spoken (ls ++ ms) ≡ spoken ls ++ spoken ms
        → cond t (words_in_line line ∷ spoken (ls ++ ms)) (spoken (ls ++ ms))
        ≡ cond t (words_in_line line ∷ spoken ls) (spoken ls) ++ spoken ms
    by_test true later = ap (λ (rest : List (List (List ℕ))). words_in_line line ∷ rest) later
    by_test false later = later

spoken_parts : (text : List ℕ) → spoken_lines text ≡ spoken (parts_between 10 text)
spoken_parts text =
    let parts : Parts text = text_parts_are text in
    sym (ap spoken parts.is ∙ (spoken_append (text_lines text) parts.extra
    ∙ (ap (λ (rest : List (List (List ℕ))). spoken (text_lines text) ++ rest) parts.unspoken ∙ append-nil (spoken (text_lines text)))))

-- A part has no line feed.
abbrev IsFree : List ℕ → Type 0
IsFree part = All (λ b. is_feed b ≡ false) part

parts_free : (text : List ℕ) → All IsFree (parts_between 10 text)
parts_free [] = All-cons IsFree [] [] (All-nil (λ (b : ℕ). is_feed b ≡ false)) (All-nil IsFree)
parts_free (b ∷ rest) = by_test (b == 10) refl (parts_between 10 rest) (parts_free rest)
  where
    by_test : (t : Bool) → (b == 10) ≡ t → (parts : List (List ℕ)) → All IsFree parts
        → All IsFree (cond t ([] ∷ parts) (onto_first b parts))
    by_test true is parts free = All-cons IsFree [] parts (All-nil (λ (b : ℕ). is_feed b ≡ false)) free
    by_test false is [] free =
        All-cons IsFree (b ∷ []) [] (All-cons (λ (b : ℕ). is_feed b ≡ false) b [] is (All-nil (λ (b : ℕ). is_feed b ≡ false)))
        (All-nil IsFree)
    by_test false is (part ∷ parts) free =
        All-cons IsFree (b ∷ part) parts (All-cons (λ (b : ℕ). is_feed b ≡ false) b part is (All-head IsFree part parts free))
        (All-tail IsFree part parts free)

-- a line before a text
line_before : (line text : List ℕ) → IsFree line → spoken_lines (line ++ 10 ∷ text) ≡ spoken (line ∷ parts_between 10 text)
line_before line text free = spoken_parts (line ++ 10 ∷ text) ∙ ap spoken (slice_split_at is_feed line 10 text free refl)

some_is : (b : ℕ) → ◌≡◌ {A = Option ℕ} (Some b) (Some 35) → (b == 35) ≡ true
some_is b is = grind (arith, nat_tests)

-- A comment line is ignored.
marked_ignored : (line : List ℕ) → line_mark line ≡ Some 35 → is_ignored_line (words_of_line line) ≡ true
marked_ignored [] is = absurd (let no : ⊥ = cc in no)
marked_ignored (b ∷ rest) is = by_test (is_blank_byte b) refl is (slice_split is_blank_byte rest) (marked_ignored rest)
  where
    by_test : (t : Bool) → is_blank_byte b ≡ t → cond t (line_mark rest) (Some b) ≡ Some 35 → (parts : List (List ℕ))
        → (line_mark rest ≡ Some 35 → is_ignored_line (filter is_filled (slice_split is_blank_byte rest)) ≡ true)
        → is_ignored_line (filter is_filled (cond t ([] ∷ slice_split is_blank_byte rest) (onto_first b parts))) ≡ true
    by_test true blank is parts later = later is
    by_test false word is [] later = some_is b is
    by_test false word is (part ∷ parts) later = some_is b is

-- without its return it is a comment too
mark_without_return : (line : List ℕ) → line_mark line ≡ Some 35 → line_mark (line_without_return line) ≡ Some 35
mark_without_return [] is = is
mark_without_return (b ∷ []) is = by_test (b == 13) refl
  where
    by_test : (t : Bool) → (b == 13) ≡ t → line_mark (cond t [] (b ∷ [])) ≡ Some 35
    by_test true return = absurd (grind (arith, nat_tests))
    by_test false other = is
mark_without_return (b ∷ c ∷ rest) is = by_test (is_blank_byte b) is (mark_without_return (c ∷ rest))
  where
    by_test : (t : Bool) → cond t (line_mark (c ∷ rest)) (Some b) ≡ Some 35
        → (line_mark (c ∷ rest) ≡ Some 35 → line_mark (line_without_return (c ∷ rest)) ≡ Some 35)
        → cond t (line_mark (line_without_return (c ∷ rest))) (Some b) ≡ Some 35
    by_test true is later = later is
    by_test false is later = is

free_without_return : (line : List ℕ) → IsFree line → IsFree (line_without_return line)
free_without_return [] free = free
free_without_return (b ∷ []) free = by_test (b == 13)
  where
    by_test : (t : Bool) → IsFree (cond t [] (b ∷ []))
    by_test true = All-nil (λ (b : ℕ). is_feed b ≡ false)
    by_test false = free
free_without_return (b ∷ c ∷ rest) free =
    All-cons (λ (b : ℕ). is_feed b ≡ false) b (line_without_return (c ∷ rest)) (All-head (λ (b : ℕ). is_feed b ≡ false) b (c ∷ rest) free)
    (free_without_return (c ∷ rest) (All-tail (λ (b : ℕ). is_feed b ≡ false) b (c ∷ rest) free))

comment_is : (line : List ℕ) → IsFree line → line_mark line ≡ Some 35 → AreComments (comment_line line)
comment_is line free is = λ text.
    let bare : List ℕ = line_without_return line in
    ap spoken_lines (append_assoc bare (10 ∷ []) text)
    ∙ (line_before bare text (free_without_return line free)
    ∙ (ap (λ (t : Bool). cond (not t) (words_in_line bare ∷ spoken (parts_between 10 text)) (spoken (parts_between 10 text)))
    (marked_ignored (line_without_return bare) (mark_without_return bare (mark_without_return line is)))
    ∙ sym (spoken_parts text)))

-- comments after others, and none
more_are : (a b : List ℕ) → AreComments a → AreComments b → AreComments (a ++ b)
more_are a b here later = λ text. ap spoken_lines (append_assoc a b text) ∙ (here (b ++ text) ∙ later text)

pub none_are : AreComments []
none_are = λ text. refl

-- What is found after one more line are comments.
after_are : (c : TextComments) (line : List ℕ) → IsFree line → AreTextComments c → AreTextComments (comments_after c line)
after_are c line free are = by_mark (line_mark line) refl
  where
    other : (t : Bool) → AreTextComments (cond t (record c { top = c.top ++ c.last; last = [] }) c)
    other true = record {
      top = more_are c.top c.last are.top are.last;
      blocks = are.blocks;
      lines = are.lines;
      last = none_are;
    }
    other false = are

    by_tests : (r s t : Bool) → (r ≡ true → line_mark line ≡ Some 35)
        → AreTextComments (cond r (record c { last = c.last ++ comment_line line })
        (cond s (record c { blocks = c.blocks ++ c.last ∷ []; last = [] })
        (cond t (record c { lines = c.lines ++ c.last ∷ []; last = [] }) (other_found c))))
    by_tests true s t is = record {
      top = are.top;
      blocks = are.blocks;
      lines = are.lines;
      last = more_are c.last (comment_line line) are.last (comment_is line free (is refl));
    }
    by_tests false true t is = record {
      top = are.top;
      blocks = All-append AreComments c.blocks (c.last ∷ []) are.blocks (All-cons AreComments c.last [] are.last (All-nil AreComments));
      lines = are.lines;
      last = none_are;
    }
    by_tests false false true is = record {
      top = are.top;
      blocks = are.blocks;
      lines = All-append AreComments c.lines (c.last ∷ []) are.lines (All-cons AreComments c.last [] are.last (All-nil AreComments));
      last = none_are;
    }
    by_tests false false false is = other (length c.blocks == 0)

    by_mark : (m : Option ℕ) → line_mark line ≡ m → AreTextComments (comments_by_mark c line m)
    by_mark None is = are
    by_mark (Some mark) is = by_tests (mark == 35) (mark == 99) (mark == 108)
        (λ hash. is ∙ ap (λ (n : ℕ). Some n) (same_number mark 35 hash))

from_are : (lines : List (List ℕ)) (c : TextComments) → All IsFree lines → AreTextComments c → AreTextComments (comments_from c lines)
from_are [] c free are = are
from_are (line ∷ rest) c free are =
    from_are rest (comments_after c line) (All-tail IsFree line rest free) (after_are c line (All-head IsFree line rest free) are)

pub found_are_comments : FoundAreComments
found_are_comments = λ text. from_are (parts_between 10 text) no_comments (parts_free text) (record {
  top = none_are;
  blocks = All-nil AreComments;
  lines = All-nil AreComments;
  last = none_are;
})

-- The comments before a line are comments, and those that are left too.
pub first_are : (comments : List (List ℕ)) → All AreComments comments → AreComments (first_comment comments)
first_are [] are = none_are
first_are (comment ∷ rest) are = All-head AreComments comment rest are

pub left_are : (comments : List (List ℕ)) → All AreComments comments → All AreComments (drop 1 comments)
left_are [] are = All-nil AreComments
left_are (comment ∷ rest) are = All-tail AreComments comment rest are

at_are : (wanted : ℕ) (m : Option ℕ) (comments : List (List ℕ)) → All AreComments comments → AreComments (comment_at wanted m comments)
at_are wanted None comments are = none_are
at_are wanted (Some mark) comments are = by_test (mark == wanted)
  where
    by_test : (t : Bool) → AreComments (cond t (first_comment comments) [])
    by_test true = first_are comments are
    by_test false = none_are

past_are : (wanted : ℕ) (m : Option ℕ) (comments : List (List ℕ)) → All AreComments comments
    → All AreComments (comments_past wanted m comments)
past_are wanted None comments are = are
past_are wanted (Some mark) comments are = by_test (mark == wanted)
  where
    by_test : (t : Bool) → All AreComments (cond t (drop 1 comments) comments)
    by_test true = left_are comments are
    by_test false = are

before_are : (c : TextComments) (m : Option ℕ) → AreTextComments c → AreComments (comments_by c m)
before_are c m are = more_are (comment_at 99 m c.blocks) (comment_at 108 m c.lines) (at_are 99 m c.blocks are.blocks)
    (at_are 108 m c.lines are.lines)

below_are : (c : TextComments) (m : Option ℕ) → AreTextComments c → AreTextComments (comments_left c m)
below_are c m are = record {
  top = are.top;
  blocks = past_are 99 m c.blocks are.blocks;
  lines = past_are 108 m c.lines are.lines;
  last = are.last;
}

-- Lines with comments are the lines.
lines_kept : (lines : List (List ℕ)) (c : TextComments) → All IsFree lines → AreTextComments c
    → spoken_lines (lines_with c lines) ≡ spoken lines
lines_kept [] c free are = refl
lines_kept (line ∷ []) c free are =
    are.last line ∙ (spoken_parts line ∙ ap spoken (slice_split_none is_feed line (All-head IsFree line [] free)))
lines_kept (line ∷ next ∷ rest) c free are =
    let below : TextComments = comments_left c (line_mark line) in
    let later : List ℕ = lines_with below (next ∷ rest) in
    let kept : spoken_lines later ≡ spoken (next ∷ rest) =
    lines_kept (next ∷ rest) below (All-tail IsFree line (next ∷ rest) free) (below_are c (line_mark line) are) in
    before_are c (line_mark line) are (line ++ 10 ∷ later)
    ∙ (line_before line later (All-head IsFree line (next ∷ rest) free)
    ∙ spoken_more line (parts_between 10 later) (next ∷ rest) (sym (spoken_parts later) ∙ kept))

pub comments_keep_lines : CommentsKeepLines
comments_keep_lines = λ c text are. are.top (lines_with c (parts_between 10 text))
    ∙ (lines_kept (parts_between 10 text) c (parts_free text) are ∙ sym (spoken_parts text))

-- the next line, after its comments
pub lines_on : (c : TextComments) (line text : List ℕ) → lines_with c (line ∷ parts_between 10 text)
    ≡ comments_by c (line_mark line) ++ (line ++ 10 ∷ lines_with (comments_left c (line_mark line)) (parts_between 10 text))
lines_on c line text = by_parts (parts_between 10 text) (some_parts text)
  where
    by_parts : (parts : List (List ℕ)) → Begins parts → lines_with c (line ∷ parts)
        ≡ comments_by c (line_mark line) ++ (line ++ 10 ∷ lines_with (comments_left c (line_mark line)) parts)
    by_parts [] begins = absurd (none_begins begins.first begins.more begins.is)
    by_parts (next ∷ rest) begins = refl

-- a line that ends with a return, and one that doesn't
pub return_left_out : (line : List ℕ) → get_or line (length line - 1) 0 ≡ 13 → take (length line - 1) line ≡ line_without_return line
return_left_out [] ends = refl
return_left_out (b ∷ []) ends = let test : (b == 13) ≡ true = eq-eqb b 13 ends in rw test refl
return_left_out (b ∷ c ∷ rest) ends = grind (arith, nat_tests, return_left_out (c ∷ rest))

pub without_return_same : (line : List ℕ) → get_or line (length line - 1) 0 ≢ 13 → line ≡ line_without_return line
without_return_same [] ends = refl
without_return_same (b ∷ []) ends = let test : (b == 13) ≡ false = grind (arith, nat_tests) in rw test refl
without_return_same (b ∷ c ∷ rest) ends =
    let before : length (b ∷ c ∷ rest) - 1 ≡ suc (length (c ∷ rest) - 1) = omega arith in
    let Ends : ℕ → Type 0 = λ n. get_or (b ∷ c ∷ rest) n 0 ≢ 13 in
    ap (λ more. b ∷ more) (without_return_same (c ∷ rest) (subst Ends before ends))

-- a line that is written after its comments, and the lines after it
pub line_put : (out total line text : List ℕ) (c : TextComments) → out ++ lines_with c (line ∷ parts_between 10 text) ≡ total
    → (out ++ (comments_by c (line_mark line) ++ (line ++ 10 ∷ [])))
    ++ lines_with (comments_left c (line_mark line)) (parts_between 10 text) ≡ total
line_put out total line text c is =
    let before : List ℕ = comments_by c (line_mark line) in
    let rest : List ℕ = lines_with (comments_left c (line_mark line)) (parts_between 10 text) in
    append_assoc out (before ++ (line ++ 10 ∷ [])) rest
    ∙ (ap (λ (bytes : List ℕ). out ++ bytes) (append_assoc before (line ++ 10 ∷ []) rest
    ∙ (ap (λ (bytes : List ℕ). before ++ bytes) (append_assoc line (10 ∷ []) rest) ∙ sym (lines_on c line text))) ∙ is)
