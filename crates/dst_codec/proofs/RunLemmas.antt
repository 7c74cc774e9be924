-- The first record of the bytes that are left.
use Rattle.std.proofs.Common.{◌≡◌, ℕ, ◌+◌, ◌≤◌, List, [], ◌∷◌, ◌++◌, length, get_or, drop, ap, sym, ◌∙◌, arith}
use Rattle.dst_codec.proofs.Names.{nat_tests, Point, Records, next, RecordKind, dst_move_of, kind_of, record_of_kind, run_after_kind, dst_records_from}
use Rattle.record_formats.specs.declared.record_reader.NextRecord.{NextRecord}
use Rattle.record_formats.specs.declared.record_reader.NextRecord.TheVariants as cut
use Rattle.record_formats.specs.RecordDecoding.{DecodesRecord}
use Rattle.dst_codec.specs.KindDecoding.{DecodesRecordAs}

-- a record of that kind and that move, and the rest
pub record_reads : (run at a b c : ℕ) (rest : List ℕ) (k : RecordKind) (m : Point) → kind_of c ≡ k → dst_move_of a b c ≡ m
    → dst_records_from run at (a ∷ b ∷ c ∷ rest) ≡ record_of_kind k at run m (dst_records_from (run_after_kind k run) (at + 3) rest)
record_reads run at a b c rest k m of_kind of_move = grind (arith, nat_tests)

-- the cut of three bytes is that of their kind and their move
pub cut_three : (run after at : ℕ) (bytes : List ℕ) (k : RecordKind) (m : Point) (result : NextRecord) → 3 ≤ length bytes
    → kind_of (get_or bytes 2 0) ≡ k → dst_move_of (get_or bytes 0 0) (get_or bytes 1 0) (get_or bytes 2 0) ≡ m
    → after ≡ run_after_kind k run → DecodesRecordAs k at run m result
    → DecodesRecord (dst_records_from run) (dst_records_from after) at bytes result
cut_three run after at [] k m result long of_kind of_move of_run cuts = absurd (let no : ⊥ = omega (arith, long) in no)
cut_three run after at (a ∷ []) k m result long of_kind of_move of_run cuts = absurd (let no : ⊥ = omega (arith, long) in no)
cut_three run after at (a ∷ b ∷ []) k m result long of_kind of_move of_run cuts = absurd (let no : ⊥ = omega (arith, long) in no)
cut_three run after at (a ∷ b ∷ c ∷ rest) k m result long of_kind of_move of_run cuts = by_cut result cuts
  where
    behind : List ℕ → Records
    behind more = dst_records_from (run_after_kind k run) (at + 3) (rest ++ more)

    by_cut : (result : NextRecord) → DecodesRecordAs k at run m result
        → DecodesRecord (dst_records_from run) (dst_records_from after) at (a ∷ b ∷ c ∷ rest) result
    by_cut cut.End cuts = λ more. record_reads run at a b c (rest ++ more) k m of_kind of_move ∙ cuts (behind more)
    by_cut (cut.Incomplete ended) cuts = absurd cuts
    by_cut (cut.Refused f) cuts = λ more. record_reads run at a b c (rest ++ more) k m of_kind of_move ∙ cuts (behind more)
    by_cut (cut.Record event size) cuts = record {
      some = omega (arith, cuts.0);
      there = omega (arith, cuts.0, long);
      is = λ more. record_reads run at a b c (rest ++ more) k m of_kind of_move ∙ cuts.2 (behind more)
          ∙ ap (λ n. next at event (dst_records_from n (at + 3) (rest ++ more))) (sym of_run)
          ∙ ap (λ n. next at event (dst_records_from after (at + n) (drop n (a ∷ b ∷ c ∷ rest) ++ more))) (sym cuts.0);
      small = cuts.1;
    }
