-- Labels of one word.
use Rattle.std.proofs.Common.{◌≡◌, ◌≢◌, ℕ, ◌+◌, ◌-◌, ◌≤◌, Bool, true, false, List, [], ◌∷◌, suc, take, length, All, Some, slice_get, ap, sym, subst, refl, arith}
use Rattle.std.proofs.lemmas.List.Elements.{All-cons, All-nil, All-take}
use Rattle.std.proofs.lemmas.Option.{get_or_from_slice_get, slice_get_within}
use Rattle.stitch_trace.proofs.Names.{nat_tests, position_or_len, label_first_word, is_space, length-take}
use Rattle.design_model.specs.Labels.{IsLabel, IsPrintable}

-- the first word of a label has no space
pub no_space : (label : List ℕ) → All (λ byte. byte ≢ 32) (label_first_word label)
no_space [] = All-nil (λ (byte : ℕ). byte ≢ 32)
no_space (byte ∷ rest) = by_test (no_space rest) (is_space byte) refl
  where
    by_test : All (λ byte. byte ≢ 32) (label_first_word rest) → (t : Bool) → is_space byte ≡ t
        → All (λ byte. byte ≢ 32) (label_first_word (byte ∷ rest))
    by_test later true is = rw is (All-nil (λ (byte : ℕ). byte ≢ 32))
    by_test later false is =
        let other : byte ≢ 32 = λ (same : byte ≡ 32). absurd (grind (arith, nat_tests)) in
        let next : 1 + position_or_len is_space rest ≡ suc (position_or_len is_space rest) = omega arith in
        rw (is, next) (All-cons (λ (byte : ℕ). byte ≢ 32) byte (label_first_word rest) other later)

none_at : (bytes : List ℕ) → All (λ byte. byte ≢ 32) bytes → (i : ℕ) → slice_get bytes i ≢ Some 32
none_at bytes none i = grind (arith, nat_tests, slice_get_within bytes i 32, get_or_from_slice_get bytes i 32 0)

-- and may be a label
pub word_label : (label word : List ℕ) (n : ℕ) → word ≡ label_first_word label → word ≡ take n label → n ≤ length label → IsLabel label
    → IsLabel word
word_label label word n is taken within keeps = record {
  short = omega (arith, keeps.short, within, ap length taken, length-take n label);
  printable = subst (λ (bytes : List ℕ). All IsPrintable bytes) (sym taken) (All-take IsPrintable n label keeps.printable);
  trimmed = none_at word (subst (λ (bytes : List ℕ). All (λ byte. byte ≢ 32) bytes) (sym is) (no_space label)) (length word - 1);
}
