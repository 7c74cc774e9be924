-- The record that is cut, and those after it, are all records.
use Rattle.std.proofs.Common.{◌≡◌, ℕ, zero, suc, ◌+◌, ◌<◌, ◌≤◌, Bool, true, false, List, [], ◌∷◌, ◌++◌, length, drop, Option, Some, None, if◌then◌else◌, refl, ap, sym, ◌∙◌, arith, length-append}
use Rattle.pec_codec.proofs.Names.{nat_tests, ints, drop-append-le, next, over, Coordinate, next_record_in, pec_records, false≢true, RecordFitsBytes, long_coordinate_in, coordinate_of_byte, with_next_record, length_after_first, records_after_skip}
use Rattle.record_formats.specs.declared.event.Event.{Event}
use Rattle.record_formats.specs.declared.record_reader.NextRecord.{NextRecord}
use Rattle.record_formats.specs.declared.record_reader.NextRecord.TheVariants as cut
use Rattle.record_formats.specs.RecordDecoding.{DecodesRecord}

-- the records after the bytes of the record before
skipped : (behind at : ℕ) (bytes : List ℕ) → behind ≤ length bytes
    → records_after_skip behind at bytes ≡ pec_records (at + behind) (drop behind bytes)
skipped zero at bytes there = ap (λ n. pec_records n bytes) (omega arith)
skipped (suc behind) at [] there = absurd (omega arith)
skipped (suc behind) at (byte ∷ rest) there = grind (arith, nat_tests, (skipped behind (at + 1) rest (omega arith)))

cut_first : (at : ℕ) (byte : ℕ) (rest : List ℕ) (c : NextRecord) → c ≡ next_record_in (byte ∷ rest)
    → pec_records at (byte ∷ rest) ≡ with_next_record c at (records_after_skip (length_after_first c) (at + 1) rest)
cut_first at byte rest c is = ap (λ c. with_next_record c at (records_after_skip (length_after_first c) (at + 1) rest)) (sym is)

-- a record of n bytes and the bytes after it
pub record_first : (at size : ℕ) (event : Event) (bytes : List ℕ) → cut.Record event size ≡ next_record_in bytes
    → 0 < size → size ≤ length bytes → pec_records at bytes ≡ next at event (pec_records (at + size) (drop size bytes))
record_first at zero event bytes is some there = absurd (omega arith)
record_first at (suc n) event [] is some there = absurd (omega arith)
record_first at (suc n) event (byte ∷ rest) is some there = grind (arith, nat_tests, cut_first, skipped)

-- the bytes that a coordinate takes
abbrev size_of : Option Coordinate → ℕ
size_of None = 0
size_of (Some x) = x.size

first_size : (short : Bool) (first : ℕ) (rest : List ℕ)
    → size_of (if short then Some (coordinate_of_byte first) else long_coordinate_in first rest) ≤ length (first ∷ rest)
first_size short first rest = grind (arith, nat_tests, ints)

-- a coordinate that is whole stays as it is, whatever bytes follow
first_stays : (short : Bool) (first : ℕ) (rest more : List ℕ) (x : Coordinate)
    → (if short then Some (coordinate_of_byte first) else long_coordinate_in first rest) ≡ Some x
    → (if short then Some (coordinate_of_byte first) else long_coordinate_in first (rest ++ more)) ≡ Some x
first_stays short first rest more x h1 = grind (arith, nat_tests, ints)

-- a record that is complete
abbrev is_whole : NextRecord → Bool
is_whole cut.End = true
is_whole (cut.Incomplete ended) = false
is_whole (cut.Refused f) = true
is_whole (cut.Record event size) = true

-- no bytes decode to an incomplete record
none_cut : (c : NextRecord) → c ≡ next_record_in [] → is_whole c ≡ true → ⊥
none_cut c is whole = false≢true (sym (ap is_whole is) ∙ whole)

-- what is cut
pub cuts_record : (at : ℕ) (bytes : List ℕ) (c : NextRecord) → c ≡ next_record_in bytes → RecordFitsBytes bytes c
    → DecodesRecord pec_records pec_records at bytes c
cuts_record at [] cut.End is fits = absurd (none_cut cut.End is refl)
cuts_record at (byte ∷ rest) cut.End is fits =
    λ more. cut_first at byte (rest ++ more) cut.End (grind (arith, nat_tests, cut.End))
cuts_record at [] (cut.Incomplete ended) is fits = record {
  few = fits;
  same = λ at bytes. refl;
  is = let none : ended ≡ false = cc in ap over (sym none);
}
cuts_record at (byte ∷ rest) (cut.Incomplete ended) is fits = record {
  few = fits;
  same = λ at bytes. refl;
  is = cut_first at byte rest (cut.Incomplete ended) is;
}
cuts_record at [] (cut.Refused f) is fits = absurd (none_cut (cut.Refused f) is refl)
cuts_record at (byte ∷ rest) (cut.Refused f) is fits =
    λ more. cut_first at byte (rest ++ more) (cut.Refused f) (grind (arith, nat_tests, (cut.Refused f)))
cuts_record at bytes (cut.Record event size) is fits = record {
  some = fits.0;
  there = fits.1;
  is = λ more. record_first at size event (bytes ++ more) (grind (arith, nat_tests, (cut.Record event size))) fits.0
      (omega (arith, fits.1, length-append bytes more))
      ∙ ap (λ left. next at event (pec_records (at + size) left)) (drop-append-le size bytes more fits.1);
  small = fits.2;
}
