-- Lines as texts: the parsed line of a text, and the canonical text of a line.
use Rattle.std.proofs.Common.{◌≡◌, ℕ, ℤ, pos, negsuc, ◌<◌, ◌≤◌, ◌==◌, Bool, true, false, nat_le, nat_lt, unsigned_abs, List, [], ◌∷◌, ◌++◌, None, Some, All, IsTrue, bytes_eq, codes, length, length-append, if◌then◌else◌, subst, ap, sym, refl, ◌∙◌, arith}
use Rattle.std.specs.Fmt.{decimal}
use Rattle.stitch_text.proofs.Names.{ints, and_from, and_parts, not-true, nat_tests, list_all-append, join_with_byte-slice_split, slice_split_at, AllPass-from_list_all, same_Some, signed_decimal, join_with_byte, list_all, Point, NEEDLE_LIMIT, is_point_within, ListLine, MAX_LINE, parsed_list_line, parsed_list_words, canonical_number_of, words_in, is_word_byte, is_line_byte, length_signed_le, All-weaker, slice_split_none, none-some, parsed_block, parsed_needle, parsed_list_word, needle_line, point_line, same_word, inner_kept, no_space}
use Rattle.design_model.specs.declared.whole_number.Whole.{Whole}
use Rattle.design_model.specs.declared.whole_number.Whole.TheVariants as whole
use Rattle.stitch_text.specs.declared.list_line.ListLine.TheVariants as line
use Rattle.stitch_text.proofs.NumberLemmas.{number_is, number_read, signed_inner}

-- no byte ends a line
abbrev pub Lacks : List ℕ → Type 0
Lacks bytes = All (λ b. (b == 10) ≡ false) bytes

pub lacks_from : (bytes : List ℕ) → list_all is_line_byte bytes ≡ true → Lacks bytes
lacks_from bytes kept = All-weaker (λ (b : ℕ). is_line_byte b ≡ true) (λ (b : ℕ). (b == 10) ≡ false)
    (λ b test. not-true (b == 10) test) bytes (AllPass-from_list_all is_line_byte bytes kept)

-- words that stand one space apart
word_apart : (word rest : List ℕ) → list_all is_word_byte word ≡ true → words_in (word ++ 32 ∷ rest) ≡ word ∷ words_in rest
word_apart word rest inner = slice_split_at (λ (b : ℕ). b == 32) word 32 rest (no_space word inner) refl

word_last : (word : List ℕ) → list_all is_word_byte word ≡ true → words_in word ≡ word ∷ []
word_last word inner = slice_split_none (λ (b : ℕ). b == 32) word (no_space word inner)

kept_apart : (word rest : List ℕ) → list_all is_word_byte word ≡ true → list_all is_line_byte rest ≡ true
    → list_all is_line_byte (word ++ 32 ∷ rest) ≡ true
kept_apart word rest inner kept = list_all-append is_line_byte word (32 ∷ rest)
    ∙ and_from (list_all is_line_byte word) (list_all is_line_byte rest) (inner_kept word inner) kept

-- a line that isn't long is read by its words
short_said : (bytes : List ℕ) → length bytes ≤ 32 → parsed_list_line bytes ≡ parsed_list_words (words_in bytes)
short_said bytes h1 = grind (arith, nat_tests, ints)

-- the text of a line is parsed as the line, and has no end of a line in it
pub record IsLine (bytes : List ℕ) (l : ListLine) : Type 0 where
  pub parsed : parsed_list_line bytes ≡ Some l
  pub kept : Lacks bytes

-- the coordinates of a needle
pub record IsNear (z : ℤ) : Type 0 where
  pub size : unsigned_abs z ≤ 30000
  pub inner : list_all is_word_byte (signed_decimal z) ≡ true
  pub short : length (signed_decimal z) ≤ 6
  pub read : canonical_number_of (signed_decimal z) ≡ whole.Value z

near : (z : ℤ) → unsigned_abs z ≤ 30000 → IsNear z
near z small = record {
  size = small;
  inner = signed_inner z (omega (arith, small));
  short = by_sign z small;
  read = number_read z (omega (arith, small));
} where
  by_sign : (z : ℤ) → unsigned_abs z ≤ 30000 → length (signed_decimal z) ≤ 6
  by_sign (pos n) small = length_signed_le 5 (pos n) (omega (arith, small)) (omega (arith, small))
  by_sign (negsuc n) small = length_signed_le 5 (negsuc n) (omega (arith, small)) (omega (arith, small))

pub near_both : (p : Point) → IsTrue (is_point_within NEEDLE_LIMIT p) → IsNear p.x × IsNear p.y
near_both p within =
    let both = and_parts (nat_le (unsigned_abs p.x) NEEDLE_LIMIT) (nat_le (unsigned_abs p.y) NEEDLE_LIMIT) within in
    (near p.x (grind (arith, nat_tests, both.0)), near p.y (grind (arith, nat_tests, both.1)))

-- the words of a line with a point
record HasPoint (word : List ℕ) (p : Point) : Type 0 where
  parsed : parsed_list_line (point_line word p) ≡ parsed_list_words (word ∷ signed_decimal p.x ∷ signed_decimal p.y ∷ [])
  kept : Lacks (point_line word p)

has_point : (word : List ℕ) (p : Point) → list_all is_word_byte word ≡ true → length word ≤ 6
    → IsTrue (is_point_within NEEDLE_LIMIT p) → HasPoint word p
has_point word p inner few within =
    let both = near_both p within in
    let x = signed_decimal p.x in
    let y = signed_decimal p.y in
    let outer = length-append word (32 ∷ (x ++ 32 ∷ y)) in
    let inside = length-append x (32 ∷ y) in
    let short : length (point_line word p) ≤ 32 = omega (arith, outer, inside, few, both.0.short, both.1.short) in
    record {
      parsed = short_said (point_line word p) short
          ∙ ap parsed_list_words (word_apart word (x ++ 32 ∷ y) inner
          ∙ ap (λ words. word ∷ words) (word_apart x y both.0.inner ∙ ap (λ words. x ∷ words) (word_last y both.1.inner)));
      kept = lacks_from (point_line word p) (kept_apart word (x ++ 32 ∷ y) inner
          (kept_apart x y both.0.inner (inner_kept y both.1.inner)));
    }

-- a needle act
said_point : (float : Bool) (p : Point) → IsNear p.x → IsNear p.y
    → parsed_needle float (canonical_number_of (signed_decimal p.x)) (canonical_number_of (signed_decimal p.y)) ≡ Some (line.Needle p float)
said_point float p h1 h2 = grind (arith, nat_tests, ints)

pub needle_is : (float : Bool) (p : Point) → IsTrue (is_point_within NEEDLE_LIMIT p) → IsLine (needle_line float p) (line.Needle p float)
needle_is true p within =
    let has = has_point (codes "float") p refl (omega arith) within in
    let both = near_both p within in
    record { parsed = has.parsed ∙ said_point true p both.0 both.1; kept = has.kept }
needle_is false p within =
    let has = has_point (codes "needle") p refl (omega arith) within in
    let both = near_both p within in
    record { parsed = has.parsed ∙ said_point false p both.0 both.1; kept = has.kept }

-- the beginning of a block
pub block_is : (thread : ℕ) → thread < 256 → IsLine (codes "block " ++ decimal thread) (line.Block thread)
block_is thread small =
    let one = near (pos thread) (omega (arith, small)) in
    let test : nat_le thread 255 ≡ true = grind (arith, nat_tests, small) in
    let bytes = codes "block " ++ decimal thread in
    let short : length bytes ≤ 32 = omega (arith, one.short) in
    record {
      parsed = short_said bytes short ∙ ap parsed_list_words (word_apart (codes "block") (decimal thread) refl
          ∙ ap (λ words. codes "block" ∷ words) (word_last (decimal thread) one.inner))
          ∙ ap parsed_block one.read ∙ ap (λ (b : Bool). if b then Some (line.Block thread) else None) test;
      kept = lacks_from bytes (kept_apart (codes "block") (decimal thread) refl (inner_kept (decimal thread) one.inner));
    }

pub trim_is : IsLine (codes "trim") line.Trim
trim_is = record { parsed = refl; kept = lacks_from (codes "trim") refl }

-- the bytes that are parsed as a line
abbrev pub SaysLine : List ℕ → ListLine → Type 0
SaysLine bytes (line.Block thread) = (bytes ≡ codes "block " ++ decimal thread) × (thread < 256)
SaysLine bytes (line.Needle p float) = bytes ≡ needle_line float p
SaysLine bytes line.Far = Unit {0}
SaysLine bytes line.Trim = bytes ≡ codes "trim"
SaysLine bytes line.End = bytes ≡ codes "end"

-- the text of a parsed line
is_said : (bytes : List ℕ) (one l : ListLine) → Some one ≡ Some l → SaysLine bytes one → SaysLine bytes l
is_said bytes one l same says = subst (λ l. SaysLine bytes l) (same_Some one l same) says

word_are : (word : List ℕ) (l : ListLine) → parsed_list_word word ≡ Some l → SaysLine word l
word_are word l says = by_tests (bytes_eq word (codes "trim")) (bytes_eq word (codes "end")) refl refl where
  by_tests : (trim end : Bool) → bytes_eq word (codes "trim") ≡ trim → bytes_eq word (codes "end") ≡ end → SaysLine word l
  by_tests true end is ends = is_said word line.Trim l (rw is at says) (same_word word (codes "trim") is)
  by_tests false true is ends = is_said word line.End l (rw (is, ends) at says) (same_word word (codes "end") ends)
  by_tests false false is ends = absurd (none-some l (rw (is, ends) at says))

number_are : (number : List ℕ) (w : Whole) (l : ListLine) → canonical_number_of number ≡ w → parsed_block w ≡ Some l
    → SaysLine (codes "block " ++ number) l
number_are number whole.NotANumber l read says = absurd (none-some l says)
number_are number whole.Outside l read says = absurd (none-some l says)
number_are number (whole.Value (negsuc n)) l read says = absurd (none-some l says)
number_are number (whole.Value (pos n)) l read says = by_test (nat_le n 255) refl where
  by_test : (b : Bool) → nat_le n 255 ≡ b → SaysLine (codes "block " ++ number) l
  by_test true is = is_said (codes "block " ++ number) (line.Block n) l (rw is at says)
      (ap (λ (text : List ℕ). codes "block " ++ text) (sym (number_is number (pos n) read).is), grind (arith, nat_tests, is))
  by_test false is = absurd (none-some l (rw is at says))

point_are : (float : Bool) (word x y : List ℕ) (v w : Whole) (l : ListLine)
    → ((p : Point) → word ++ 32 ∷ (signed_decimal p.x ++ 32 ∷ signed_decimal p.y) ≡ needle_line float p)
    → canonical_number_of x ≡ v → canonical_number_of y ≡ w → parsed_needle float v w ≡ Some l → SaysLine (word ++ 32 ∷ (x ++ 32 ∷ y)) l
point_are float word x y whole.NotANumber w l kind across down says = absurd (none-some l says)
point_are float word x y whole.Outside whole.NotANumber l kind across down says = absurd (none-some l says)
point_are float word x y whole.Outside whole.Outside l kind across down says =
    is_said (word ++ 32 ∷ (x ++ 32 ∷ y)) line.Far l says tt
point_are float word x y whole.Outside (whole.Value v) l kind across down says =
    is_said (word ++ 32 ∷ (x ++ 32 ∷ y)) line.Far l says tt
point_are float word x y (whole.Value u) whole.NotANumber l kind across down says = absurd (none-some l says)
point_are float word x y (whole.Value u) whole.Outside l kind across down says =
    is_said (word ++ 32 ∷ (x ++ 32 ∷ y)) line.Far l says tt
point_are float word x y (whole.Value u) (whole.Value v) l kind across down says =
    let p : Point = record { x = u; y = v } in
    is_said (word ++ 32 ∷ (x ++ 32 ∷ y)) (line.Needle p float) l says
    (ap (λ (x : List ℕ). word ++ 32 ∷ (x ++ 32 ∷ y)) (sym (number_is x u across).is)
    ∙ ap (λ (y : List ℕ). word ++ 32 ∷ (signed_decimal u ++ 32 ∷ y)) (sym (number_is y v down).is) ∙ kind p)

two_words : (word number : List ℕ) (l : ListLine) → parsed_list_words (word ∷ number ∷ []) ≡ Some l → SaysLine (word ++ 32 ∷ number) l
two_words word number l says = by_test (bytes_eq word (codes "block")) refl where
  by_test : (b : Bool) → bytes_eq word (codes "block") ≡ b → SaysLine (word ++ 32 ∷ number) l
  by_test true is = subst (λ (w : List ℕ). SaysLine (w ++ 32 ∷ number) l) (sym (same_word word (codes "block") is))
      (number_are number (canonical_number_of number) l refl (rw is at says))
  by_test false is = absurd (none-some l (rw is at says))

three_words : (word x y : List ℕ) (l : ListLine) → parsed_list_words (word ∷ x ∷ y ∷ []) ≡ Some l → SaysLine (word ++ 32 ∷ (x ++ 32 ∷ y)) l
three_words word x y l says = by_tests (bytes_eq word (codes "needle")) (bytes_eq word (codes "float")) refl refl where
  by_tests : (needle float : Bool) → bytes_eq word (codes "needle") ≡ needle → bytes_eq word (codes "float") ≡ float
      → SaysLine (word ++ 32 ∷ (x ++ 32 ∷ y)) l
  by_tests true float is floats =
      subst (λ (w : List ℕ). SaysLine (w ++ 32 ∷ (x ++ 32 ∷ y)) l) (sym (same_word word (codes "needle") is))
      (point_are false (codes "needle") x y (canonical_number_of x) (canonical_number_of y) l (λ p. refl) refl refl (rw is at says))
  by_tests false true is floats =
      subst (λ (w : List ℕ). SaysLine (w ++ 32 ∷ (x ++ 32 ∷ y)) l) (sym (same_word word (codes "float") floats))
      (point_are true (codes "float") x y (canonical_number_of x) (canonical_number_of y) l (λ p. refl) refl refl (rw (is, floats) at says))
  by_tests false false is floats = absurd (none-some l (rw (is, floats) at says))

words_are : (words : List (List ℕ)) (l : ListLine) → parsed_list_words words ≡ Some l → SaysLine (join_with_byte 32 words) l
words_are [] l says = absurd (none-some l says)
words_are (word ∷ []) l says = word_are word l says
words_are (word ∷ number ∷ []) l says = two_words word number l says
words_are (word ∷ x ∷ y ∷ []) l says = three_words word x y l says
words_are (word ∷ x ∷ y ∷ more ∷ rest) l says = absurd (none-some l says)

-- bytes that are parsed as a line are its canonical text
pub line_is : (bytes : List ℕ) (l : ListLine) → parsed_list_line bytes ≡ Some l → SaysLine bytes l
line_is bytes l says = by_test (nat_lt MAX_LINE (length bytes)) refl where
  by_test : (b : Bool) → nat_lt MAX_LINE (length bytes) ≡ b → SaysLine bytes l
  by_test true is = absurd (none-some l (rw is at says))
  by_test false is = subst (λ (bytes : List ℕ). SaysLine bytes l) (join_with_byte-slice_split 32 bytes)
      (words_are (words_in bytes) l (rw is at says))
