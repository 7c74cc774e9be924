-- A text without the spaces at its end, and what a label field holds.
use Rattle.std.proofs.Common.{◌≡◌, ◌≢◌, ℕ, zero, suc, ◌+◌, ◌-◌, ◌<◌, ◌≤◌, Bool, true, false, List, [], ◌∷◌, ◌++◌, length, map, take, replicate, get_or, All, Some, slice_get, ◌==◌, if◌then◌else◌, refl, ap, sym, ◌∙◌, subst, arith, length-append}
use Rattle.std.proofs.Math.Seq.{take-length}
use Rattle.std.proofs.lemmas.List.{append-nil, append_assoc}
use Rattle.std.proofs.lemmas.List.Elements.{All-map, All-nil, All-cons, All-head, All-tail}
use Rattle.format_traits.proofs.Names.{nat_tests, ints, length-replicate, printable_byte, without_end_spaces, label_in, label_field, le-leb, ne_eqb, take_all, take_more, length-map, MAX_LABEL, byte_unless_end_space, LabelFieldsRoundTrip}
use Rattle.design_model.specs.Labels.{IsLabel, IsPrintable}

pub without_end_spaces-space : (xs : List ℕ) → without_end_spaces (xs ++ 32 ∷ []) ≡ without_end_spaces xs
without_end_spaces-space [] = refl
without_end_spaces-space (x ∷ xs) = ap (byte_unless_end_space x) (without_end_spaces-space xs)

pub without_end_spaces-other : (xs : List ℕ) (c : ℕ) → c ≢ 32 → without_end_spaces (xs ++ c ∷ []) ≡ xs ++ c ∷ []
without_end_spaces-other [] c other = rw (ne_eqb c 32 other) refl
without_end_spaces-other (x ∷ []) c other = ap (byte_unless_end_space x) (without_end_spaces-other [] c other)
without_end_spaces-other (x ∷ y ∷ xs) c other = ap (byte_unless_end_space x) (without_end_spaces-other (y ∷ xs) c other)

-- a text is what stands before its last byte, and that byte
pub last_split : (xs : List ℕ) → 1 ≤ length xs → xs ≡ take (length xs - 1) xs ++ get_or xs (length xs - 1) 0 ∷ []
last_split xs some =
    let here : length xs - 1 < length xs = omega (arith, some) in
    let whole : length xs - 1 + 1 ≡ length xs = omega (arith, some) in
    sym (take-length xs) ∙ ap (λ n. take n xs) (sym whole) ∙ take_more xs (length xs - 1) 0 here

-- a last space is dropped
pub without_end_spaces-drops : (xs : List ℕ) → 1 ≤ length xs → get_or xs (length xs - 1) 0 ≡ 32
    → without_end_spaces (take (length xs - 1) xs) ≡ without_end_spaces xs
without_end_spaces-drops xs some is =
    let split = last_split xs some ∙ ap (λ c. take (length xs - 1) xs ++ c ∷ []) is in
    sym (ap without_end_spaces split ∙ without_end_spaces-space (take (length xs - 1) xs))

-- a text that ends otherwise stays
pub without_end_spaces-stays : (xs : List ℕ) → 1 ≤ length xs → get_or xs (length xs - 1) 0 ≢ 32 → without_end_spaces xs ≡ xs
without_end_spaces-stays xs some other =
    let split = last_split xs some in
    ap without_end_spaces split ∙ without_end_spaces-other (take (length xs - 1) xs) (get_or xs (length xs - 1) 0) other ∙ sym split

length-byte_unless_end_space : (x : ℕ) (rest : List ℕ) → length (byte_unless_end_space x rest) ≤ suc (length rest)
length-byte_unless_end_space x rest = grind (arith, nat_tests, ints)

length-without_end_spaces : (xs : List ℕ) → length (without_end_spaces xs) ≤ length xs
length-without_end_spaces [] = omega arith
length-without_end_spaces (x ∷ xs) = omega (arith, length-byte_unless_end_space x (without_end_spaces xs), length-without_end_spaces xs)

All-byte_unless_end_space : (P : ℕ → Type 0) (x : ℕ) (rest : List ℕ) → P x → All P rest → All P (byte_unless_end_space x rest)
All-byte_unless_end_space P x [] here all = by_test (x == 32)
  where
    by_test : (b : Bool) → All P (if b then [] else x ∷ [])
    by_test true = All-nil P
    by_test false = All-cons P x [] here (All-nil P)
All-byte_unless_end_space P x (y ∷ rest) here all = All-cons P x (y ∷ rest) here all

All-without_end_spaces : (P : ℕ → Type 0) (xs : List ℕ) → All P xs → All P (without_end_spaces xs)
All-without_end_spaces P [] all = all
All-without_end_spaces P (x ∷ xs) all = All-byte_unless_end_space P x (without_end_spaces xs) (All-head P x xs all)
    (All-without_end_spaces P xs (All-tail P x xs all))

-- no space stands at the end
abbrev IsTrimmed : List ℕ → Type 0
IsTrimmed xs = slice_get xs (length xs - 1) ≢ Some 32

trimmed_is_trimmed : (xs : List ℕ) → IsTrimmed (without_end_spaces xs)
trimmed_is_trimmed [] = λ no. cc
trimmed_is_trimmed (x ∷ xs) = grind (arith, nat_tests, (trimmed_is_trimmed xs))

-- what a field holds may be a label
pub label_in_is_label : (field : List ℕ) → length field ≤ MAX_LABEL → IsLabel (label_in field)
label_in_is_label field short =
    let few = length-without_end_spaces (map printable_byte field) in
    let same = length-map field printable_byte in
    record {
      short = omega (arith, few, same, short);
      printable = All-without_end_spaces IsPrintable (map printable_byte field)
          (All-map IsPrintable printable_byte field (grind (arith, nat_tests)));
      trimmed = trimmed_is_trimmed (map printable_byte field);
    }

-- the bytes of a whole field, as they were gone through
pub whole_field : (field items text : List ℕ) (n : ℕ) → length field ≤ MAX_LABEL → length field ≤ n
    → items ≡ map printable_byte (take n field) → text ≡ without_end_spaces items → IsLabel text
whole_field field items text n short all of_items of_text =
    let whole : take n field ≡ field = take_all n field all in
    subst IsLabel (sym (of_text ∙ ap without_end_spaces (of_items ∙ ap (map printable_byte) whole))) (label_in_is_label field short)

printable_byte-printable : (byte : ℕ) → IsPrintable byte → printable_byte byte ≡ byte
printable_byte-printable byte printable = rw (le-leb 32 byte printable.from_space, le-leb byte 126 printable.to_tilde) refl

map-printable_byte : (xs : List ℕ) (n : ℕ) → All IsPrintable xs → map printable_byte (xs ++ replicate n 32) ≡ xs ++ replicate n 32
map-printable_byte [] zero all = refl
map-printable_byte [] (suc n) all = ap (λ more. 32 ∷ more) (map-printable_byte [] n all)
map-printable_byte (x ∷ xs) n all =
    ap (λ byte. byte ∷ map printable_byte (xs ++ replicate n 32)) (printable_byte-printable x (All-head IsPrintable x xs all))
    ∙ ap (λ more. x ∷ more) (map-printable_byte xs n (All-tail IsPrintable x xs all))

without_end_spaces-spaces : (xs : List ℕ) (n : ℕ) → without_end_spaces (xs ++ replicate n 32) ≡ without_end_spaces xs
without_end_spaces-spaces xs zero = ap without_end_spaces (append-nil xs)
without_end_spaces-spaces xs (suc n) = ap without_end_spaces (sym (append_assoc xs (32 ∷ []) (replicate n 32)))
    ∙ without_end_spaces-spaces (xs ++ 32 ∷ []) n ∙ without_end_spaces-space xs

-- a text without a space at its end is trimmed
without_end_spaces-same : (xs : List ℕ) → slice_get xs (length xs - 1) ≢ Some 32 → without_end_spaces xs ≡ xs
without_end_spaces-same [] other = refl
without_end_spaces-same (x ∷ []) other = let no : x ≢ 32 = λ same. other (ap Some same) in rw (ne_eqb x 32 no) refl
without_end_spaces-same (x ∷ y ∷ xs) other =
    let next : length (x ∷ y ∷ xs) - 1 ≡ suc (length (y ∷ xs) - 1) = omega arith in
    ap (byte_unless_end_space x) (without_end_spaces-same (y ∷ xs) (subst (λ n. slice_get (x ∷ y ∷ xs) n ≢ Some 32) next other))

label_in-label_field : (label : List ℕ) → IsLabel label → label_in (label_field label) ≡ label
label_in-label_field label is =
    ap without_end_spaces (map-printable_byte label (MAX_LABEL - length label) is.printable)
    ∙ without_end_spaces-spaces label (MAX_LABEL - length label)
    ∙ without_end_spaces-same label is.trimmed

-- the field of a label has its places, and the label is read back from it
pub label_fields_read_back : LabelFieldsRoundTrip
label_fields_read_back label is = record {
  places =
      let spaces = length-replicate {A = ℕ} (MAX_LABEL - length label) 32 in
      let all = length-append label (replicate (MAX_LABEL - length label) 32) in
      omega (arith, spaces, all, is.short);
  back = label_in-label_field label is;
}
