-- What follows the end record of a PEC block is not read.
use Rattle.std.proofs.Common.{◌≡◌, ℕ, zero, suc, ◌+◌, ◌-◌, ◌≤◌, Bool, true, false, List, [], ◌∷◌, ◌++◌, length, not, nat_le, refl, ap, sym, ◌∙◌, arith, replicate}
use Rattle.std.proofs.lemmas.Bool.Decides.{nat_tests}
use Rattle.pec_codec.specs.Records.{length_after_first, next_record_in, records_after_skip, with_next_record}
use Rattle.record_formats.specs.declared.record_reader.NextRecord.{NextRecord}
use Rattle.record_formats.specs.declared.record_reader.NextRecord.TheVariants as cut
use Rattle.record_formats.specs.Records.{Records, next}
use Rattle.thumbnails.specs.Tails.{TailsAreNotRead, has_end}

-- Blank bytes have no end.
blank_ends : (n behind at : ℕ) → has_end (records_after_skip behind at (replicate n 0)) ≡ false
blank_ends zero behind at = refl
blank_ends (suc n) (suc behind) at = blank_ends n behind (at + 1)
blank_ends (suc zero) zero at = refl
blank_ends (suc (suc n)) zero at = blank_ends (suc n) 1 (at + 1)

-- A record that takes all of some bytes has no end behind it.
past_end : (bytes : List ℕ) (n behind at : ℕ) → length bytes ≤ behind
    → has_end (records_after_skip behind at (bytes ++ replicate n 0)) ≡ false
past_end [] n behind at past = blank_ends n behind at
past_end (byte ∷ rest) n (suc behind) at past = past_end rest n behind (at + 1) (omega (arith, past))
past_end (byte ∷ rest) n zero at past = absurd (omega (arith, past))

-- The test whether a record that isn't the end leaves none of so many bytes after its first.
abbrev is_long : NextRecord → ℕ → Bool
is_long cut.End n = false
is_long (cut.Incomplete ended) n = not ended
is_long (cut.Refused f) n = false
is_long (cut.Record event size) n = nat_le n (size - 1)

-- A record that leaves some of the bytes, or takes four, is the same whatever follows them.
four : (a b c d : ℕ) (m n : List ℕ) → next_record_in (a ∷ b ∷ c ∷ d ∷ m) ≡ next_record_in (a ∷ b ∷ c ∷ d ∷ n)
four a b c d m n = grind (arith, nat_tests)

three : (a b c : ℕ) (m n : List ℕ) → is_long (next_record_in (a ∷ b ∷ c ∷ m)) 3 ≡ false
    → next_record_in (a ∷ b ∷ c ∷ m) ≡ next_record_in (a ∷ b ∷ c ∷ n)
three a b c m n short = grind (arith, nat_tests)

two : (a b : ℕ) (m n : List ℕ) → is_long (next_record_in (a ∷ b ∷ m)) 2 ≡ false
    → next_record_in (a ∷ b ∷ m) ≡ next_record_in (a ∷ b ∷ n)
two a b m n short = grind (arith, nat_tests)

one : (a : ℕ) (m n : List ℕ) → is_long (next_record_in (a ∷ m)) 1 ≡ false → next_record_in (a ∷ m) ≡ next_record_in (a ∷ n)
one a m n short = grind (arith, nat_tests)

same_record : (byte : ℕ) (rest m n : List ℕ) → is_long (next_record_in (byte ∷ (rest ++ m))) (length rest + 1) ≡ false
    → next_record_in (byte ∷ (rest ++ m)) ≡ next_record_in (byte ∷ (rest ++ n))
same_record a [] m n short = one a m n short
same_record a (b ∷ []) m n short = two a b m n short
same_record a (b ∷ c ∷ []) m n short = three a b c m n short
same_record a (b ∷ c ∷ d ∷ more) m n short = four a b c d (more ++ m) (more ++ n)

-- The records after one and the same record are the same where those behind it are.
same_next : (c : NextRecord) (at : ℕ) (a z : Records) → (has_end z ≡ true → a ≡ z) → has_end (with_next_record c at z) ≡ true
    → with_next_record c at a ≡ with_next_record c at z
same_next cut.End at a z same ended = refl
same_next (cut.Incomplete over) at a z same ended = refl
same_next (cut.Refused f) at a z same ended = refl
same_next (cut.Record event size) at a z same ended = ap (λ (r : Records). next at event r) (same ended)

-- Behind a long record is no end.
long_next : (c : NextRecord) (n at : ℕ) (r : ℕ → Records) → is_long c (n + 1) ≡ true → ((k : ℕ) → n ≤ k → has_end (r k) ≡ false)
    → has_end (with_next_record c at (r (length_after_first c))) ≡ false
long_next cut.End n at r long none = cc
long_next (cut.Incomplete ended) n at r long none = grind (arith, nat_tests)
long_next (cut.Refused f) n at r long none = refl
long_next (cut.Record event size) n at r long none = none (size - 1) (grind (arith, nat_tests))

clash : (b : Bool) → b ≡ true → b ≡ false → ⊥
clash b one two = cc

pub tails : TailsAreNotRead
tails [] tail n behind at ended = absurd (clash _ ended (blank_ends n behind at))
tails (byte ∷ rest) tail n (suc behind) at ended = tails rest tail n behind (at + 1) ended
tails (byte ∷ rest) tail n zero at ended = pick (λ k behind_end. tails rest tail n k (at + 1) behind_end)
    (is_long first (length rest + 1)) refl
  where
    first : NextRecord
    first = next_record_in (byte ∷ (rest ++ replicate n 0))

    pick : ((k : ℕ) → has_end (records_after_skip k (at + 1) (rest ++ replicate n 0)) ≡ true
        → records_after_skip k (at + 1) (rest ++ tail) ≡ records_after_skip k (at + 1) (rest ++ replicate n 0))
        → (long : Bool) → is_long first (length rest + 1) ≡ long
        → records_after_skip zero at (byte ∷ (rest ++ tail)) ≡ records_after_skip zero at (byte ∷ (rest ++ replicate n 0))
    pick again true long = absurd (clash _ ended (long_next first (length rest) at
        (λ (k : ℕ). records_after_skip k (at + 1) (rest ++ replicate n 0)) long (λ k past. past_end rest n k (at + 1) past)))
    pick again false short =
        ap (λ (c : NextRecord). with_next_record c at (records_after_skip (length_after_first c) (at + 1) (rest ++ tail)))
        (sym (same_record byte rest (replicate n 0) tail short))
        ∙ same_next first at (records_after_skip (length_after_first first) (at + 1) (rest ++ tail))
        (records_after_skip (length_after_first first) (at + 1) (rest ++ replicate n 0))
        (again (length_after_first first)) ended
