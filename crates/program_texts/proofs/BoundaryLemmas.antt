-- The end of the characters that fit into a length.
use Rattle.std.proofs.Common.{◌≡◌, ◌<◌, ◌≤◌, ℕ, zero, suc, List, length, take, arith}
use Rattle.std.proofs.lemmas.Bool.Decides.{nat_tests}
use Rattle.std.specs.Fmt.Cut.{floor_char_boundary}
use Rattle.std.specs.Str.{IsCharBoundary}
use Rattle.program_texts.specs.CompanionUsage.{shown_word}

boundary_is : (bs : List ℕ) (i kept : ℕ) → i < length bs → kept ≤ i → IsCharBoundary bs kept
    → ((j : ℕ) → kept < j → j ≤ i → ¬ (IsCharBoundary bs j)) → floor_char_boundary bs i ≡ kept
unfolding floor_char_boundary
boundary_is bs zero kept within low is last = omega arith
boundary_is bs (suc i) kept within low is last = grind (arith, nat_tests, (boundary_is bs i kept), (last (suc i)))

pub shown_of_long : (word : List ℕ) (kept : ℕ) → 200 < length word → kept ≤ 200 → IsCharBoundary word kept
    → ((j : ℕ) → kept < j → j ≤ 200 → ¬ (IsCharBoundary word j)) → take kept word ≡ shown_word word
shown_of_long word kept long low is last = grind (arith, nat_tests, (boundary_is word 200 kept long low is last))
