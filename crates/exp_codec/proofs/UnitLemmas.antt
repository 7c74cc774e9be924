-- The first unit of the bytes that are left.
use Rattle.std.proofs.Common.{◌≡◌, ◌≢◌, ℕ, ◌+◌, ◌-◌, ◌≤◌, List, [], ◌∷◌, ◌++◌, length, get_or, take, drop, refl, arith}
use Rattle.std.proofs.lemmas.Bool.{ne_eqb}
use Rattle.exp_codec.proofs.Names.{nat_tests, length-drop, loaded_with, next, exp_reads, units_from, record_or_refusal, event_of_control, exp_move_of, take_all, file_commands}
use Rattle.record_formats.specs.declared.event.Event.TheVariants as event

-- a unit of two bytes, whatever stands after it
pub two_at : (at a b : ℕ) (behind : List ℕ) → a ≢ 0x80
    → units_from at (a ∷ b ∷ behind) ≡ next at (event.Stitch (exp_move_of a b)) (units_from (at + 2) behind)
two_at at a b [] other = rw (ne_eqb a 0x80 other) refl
two_at at a b (c ∷ []) other = rw (ne_eqb a 0x80 other) refl
two_at at a b (c ∷ d ∷ rest) other = rw (ne_eqb a 0x80 other) refl

pub two_bytes : (at : ℕ) (bytes more : List ℕ) → 2 ≤ length bytes → get_or bytes 0 0 ≢ 0x80
    → units_from at (bytes ++ more)
    ≡ next at (event.Stitch (exp_move_of (get_or bytes 0 0) (get_or bytes 1 0))) (units_from (at + 2) (drop 2 bytes ++ more))
two_bytes at [] more some other = absurd (omega (arith, some))
two_bytes at (a ∷ []) more some other = absurd (omega (arith, some))
two_bytes at (a ∷ b ∷ rest) more some other = two_at at a b (rest ++ more) other

-- all bytes after the first two
pub behind_two : (bytes : List ℕ) → take (length bytes - 2) (drop 2 bytes) ≡ drop 2 bytes
behind_two bytes = let left = length-drop 2 bytes in take_all (length bytes - 2) (drop 2 bytes) (omega (arith, left))

-- a unit of four bytes
pub four_bytes : (at : ℕ) (bytes behind more : List ℕ) → behind ≡ drop 2 bytes → 2 ≤ length bytes → 2 ≤ length behind
    → get_or bytes 0 0 ≡ 0x80
    → units_from at (bytes ++ more) ≡ record_or_refusal at
    (event_of_control (get_or bytes 1 0) (exp_move_of (get_or behind 0 0) (get_or behind 1 0)))
    (units_from (at + 4) (drop 4 bytes ++ more))
four_bytes at [] behind more same some longer is = absurd (omega (arith, some))
four_bytes at (a ∷ []) behind more same some longer is = absurd (omega (arith, some))
four_bytes at (a ∷ b ∷ []) behind more same some longer is = grind (arith, nat_tests)
four_bytes at (a ∷ b ∷ c ∷ []) behind more same some longer is = grind (arith, nat_tests)
four_bytes at (a ∷ b ∷ c ∷ d ∷ rest) behind more same some longer is = grind (arith, nat_tests)

-- a file is its units
pub reads_units : (bytes : List ℕ) → exp_reads bytes ≡ loaded_with [] [] (file_commands (units_from 0 bytes))
reads_units bytes = grind (arith, nat_tests)
