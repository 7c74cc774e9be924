-- The first of the parts of bytes between marks.
use Rattle.std.proofs.Common.{◌≡◌, ◌≢◌, ℕ, zero, suc, ◌+◌, ◌<◌, ◌≤◌, ◌==◌, Bool, List, [], ◌∷◌, Option, None, Some, length, length-drop, take, drop, ap, sym, refl, ◌∙◌, arith}
use Rattle.std.proofs.Math.Seq.{drop-nil}
use Rattle.std.proofs.lemmas.List.Splits.{slice_split_first, slice_split_none}
use Rattle.std.proofs.lemmas.Bool.{cases_Bool, false_from_ne_true}
use Rattle.std.proofs.lemmas.Bool.Decides.{nat_tests}
use Rattle.std.proofs.lemmas.List.Sums.{fails_before_first, position_or_len_is}
use Rattle.memchr.specs.Find.{IsFirstByte, is_byte}
use Rattle.std.specs.List.{position_or_len}
use Rattle.std.specs.Option.{unwrap_or}
use Rattle.text_parts.specs.Parts.{parts_between, split_at_byte, with_first_byte}

-- one byte more is left out
pub drop_one : (place : ℕ) (bytes : List ℕ) → drop 1 (drop place bytes) ≡ drop (place + 1) bytes
drop_one zero bytes = refl
drop_one (suc place) [] = sym (drop-nil (suc place + 1))
drop_one (suc place) (b ∷ bytes) =
    let more : suc place + 1 ≡ suc (place + 1) = omega arith in rw more (drop_one place bytes)

-- the first place that a search finds
pub place_found : (mark : ℕ) (bytes : List ℕ) (found : Option ℕ) → IsFirstByte (is_byte mark) bytes found
    → unwrap_or found (length bytes) ≡ position_or_len (λ b. b == mark) bytes
place_found mark bytes None none =
    sym (position_or_len_is (λ (b : ℕ). b == mark) bytes (length bytes) 0 (omega arith)
    (λ k less. false_from_ne_true _ (none k (omega arith) less)) (λ less. absurd (omega (arith, less))))
place_found mark bytes (Some place) found =
    let first = found.0 in
    sym (position_or_len_is (λ (b : ℕ). b == mark) bytes place 0 (omega (arith, first.high))
    (λ k less. false_from_ne_true _ (first.before k (omega arith) less)) (λ _. found.1))

-- bytes without a mark are one part
pub one_part : (mark : ℕ) (bytes from : List ℕ) (place : ℕ) → place ≡ position_or_len (λ b. b == mark) bytes
    → place ≤ length bytes → from ≡ drop place bytes → length from ≡ 0 → parts_between mark bytes ≡ bytes ∷ []
one_part mark bytes from place is within are none =
    slice_split_none (λ (b : ℕ). b == mark) bytes (λ k d there.
    fails_before_first (λ (b : ℕ). b == mark) bytes k d
    (omega (arith, is, within, ap length are, none, length-drop place bytes)))

-- the first part ends before the first mark
pub first_part : (mark : ℕ) (bytes before from behind : List ℕ) (place : ℕ) → place ≡ position_or_len (λ b. b == mark) bytes
    → before ≡ take place bytes → from ≡ drop place bytes → length from ≢ 0 → behind ≡ drop 1 from
    → parts_between mark bytes ≡ before ∷ parts_between mark behind
first_part mark bytes before from behind place is front are some rest =
    let test : ℕ → Bool = λ b. b == mark in
    let there : position_or_len test bytes < length bytes =
    omega (arith, is, some, ap length are, length-drop place bytes) in
    let left : behind ≡ drop (place + 1) bytes = rest ∙ (ap (drop 1) are ∙ drop_one place bytes) in
    slice_split_first test bytes 0 there ∙ rw (← is, front, left) refl

-- bytes without a mark have no two parts
pub no_split : (mark : ℕ) (bytes from : List ℕ) (place : ℕ) → place ≡ position_or_len (λ b. b == mark) bytes
    → from ≡ drop place bytes → length from ≡ 0 → split_at_byte mark bytes ≡ None
no_split mark [] from place is are none = refl
no_split mark (b ∷ bytes) from place is are none =
    grind (arith, nat_tests, (no_split mark bytes _ _ refl refl), length-drop)

-- the two parts of bytes with a mark
split_there : (mark : ℕ) (bytes : List ℕ) → position_or_len (λ b. b == mark) bytes < length bytes
    → split_at_byte mark bytes ≡ Some (
      take (position_or_len (λ b. b == mark) bytes) bytes,
      drop (position_or_len (λ b. b == mark) bytes + 1) bytes,
    )
split_there mark [] there = absurd (omega (arith, there))
split_there mark (b ∷ bytes) there = grind (arith, nat_tests, (cases_Bool (b == mark)), (split_there mark bytes))

-- the two parts are those before and behind the first mark
pub one_split : (mark : ℕ) (bytes before from behind : List ℕ) (place : ℕ) → place ≡ position_or_len (λ b. b == mark) bytes
    → before ≡ take place bytes → from ≡ drop place bytes → length from ≢ 0 → behind ≡ drop 1 from
    → split_at_byte mark bytes ≡ Some (before, behind)
one_split mark bytes before from behind place is front are some rest =
    let test : ℕ → Bool = λ b. b == mark in
    let there : position_or_len test bytes < length bytes =
    omega (arith, is, some, ap length are, length-drop place bytes) in
    let left : behind ≡ drop (place + 1) bytes = rest ∙ (ap (drop 1) are ∙ drop_one place bytes) in
    split_there mark bytes there ∙ rw (← is, front, left) refl
