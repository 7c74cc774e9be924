-- Labels, and the lines that have them.
use Rattle.std.proofs.Common.{◌≡◌, ℕ, ◌-◌, ◌<◌, ◌&&◌, Bool, true, false, not, nat_le, List, [], ◌∷◌, ◌++◌, None, Some, length, length-append, get_or, slice_get, take, if◌then◌else◌, ap, sym, refl, ◌∙◌, arith}
use Rattle.std.proofs.Math.Seq.{take-append_seam}
use Rattle.stitch_text.proofs.Names.{and_from, and_parts, not-true, nat_tests, AllPass-from_list_all, same_Some, bytes_eq-Decides, list_all, IsLabel, parsed_label, label_line, has_trailing_space, is_valid_label, is_printable, list_all-from_AllPass, get_or_from_slice_get, slice_get-get_or, in_brackets, false_true}

-- what stands between the brackets of a label's line is the label
between : (label : List ℕ) → in_brackets (label_line label) ≡ label
between label =
    let count : length (label_line label) - 8 ≡ length label = omega (arith, length-append label (93 ∷ [])) in
    ap (λ n. take n (label ++ 93 ∷ [])) count ∙ take-append_seam label (93 ∷ [])

-- the line of a label is judged by the label
pub said_by_label : (line label : List ℕ) → line ≡ label_line label
    → parsed_label line ≡ (if is_valid_label label then Some label else None)
said_by_label line label is = grind (arith, nat_tests, between, bytes_eq-Decides)

-- the same, where the label is one and where it isn't
pub label_yes : (line label : List ℕ) → line ≡ label_line label → is_valid_label label ≡ true → parsed_label line ≡ Some label
label_yes line label is good =
    said_by_label line label is ∙ ap (λ (b : Bool). if b then Some label else None) good

-- the byte at the end
last_space : (label : List ℕ) → slice_get label (length label - 1) ≡ Some 32 → has_trailing_space label ≡ true
last_space label is = grind (arith, nat_tests, get_or_from_slice_get label (length label - 1) 32 0 is)

-- the meaning of the test of a label
pub label_from : (label : List ℕ) → is_valid_label label ≡ true → IsLabel label
label_from label is =
    let outer = and_parts (nat_le (length label) 16) (list_all is_printable label && not (has_trailing_space label)) is in
    let inner = and_parts (list_all is_printable label) (not (has_trailing_space label)) outer.1 in
    let all = AllPass-from_list_all is_printable label inner.0 in
    record {
      short = grind (arith, nat_tests, outer.0);
      printable = λ k d there. grind (arith, nat_tests, (get_or label k d));
      trimmed = λ space. false_true (sym (not-true (has_trailing_space label) inner.1) ∙ last_space label space);
    }

-- and what it takes
pub label_to : (label : List ℕ) → IsLabel label → is_valid_label label ≡ true
label_to label is =
    and_from (nat_le (length label) 16) (list_all is_printable label && not (has_trailing_space label))
    (grind (arith, nat_tests, is.short))
    (and_from (list_all is_printable label) (not (has_trailing_space label))
    (list_all-from_AllPass is_printable label (λ k d there. grind (arith, nat_tests, (get_or label k d), (is.printable k d there))))
    (by_end (has_trailing_space label) refl)) where
      last_is : (label : List ℕ) → has_trailing_space label ≡ true → slice_get label (length label - 1) ≡ Some 32
      last_is [] space = absurd (false_true space)
      last_is (b ∷ label) space =
          let there : length (b ∷ label) - 1 < length (b ∷ label) = omega arith in
          let last : get_or (b ∷ label) (length (b ∷ label) - 1) 0 ≡ 32 = grind (arith, nat_tests, space) in
          slice_get-get_or (b ∷ label) (length (b ∷ label) - 1) 0 there ∙ ap (λ x. Some x) last

      by_end : (b : Bool) → has_trailing_space label ≡ b → not b ≡ true
      by_end false is_not = refl
      by_end true space = absurd (is.trimmed (last_is label space))

-- the meaning of the label of a line
pub record HasLabel (line label : List ℕ) : Type 0 where
  pub is : line ≡ label_line label
  pub good : is_valid_label label ≡ true

pub label_is : (line label : List ℕ) → parsed_label line ≡ Some label → HasLabel line label
label_is line label says = grind (arith, nat_tests, same_Some, bytes_eq-Decides)
