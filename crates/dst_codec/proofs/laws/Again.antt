-- A written design reads back, with each move within the limit, and a plain design is written.
use Rattle.std.proofs.Common.{◌≡◌, ℕ, true, IsTrue, List, [], ◌++◌, length, Option, None, Ok, IfOk, IsOkAnd, refl, ap, sym, ◌∙◌, subst, arith}
use Rattle.dst_codec.proofs.Names.{nat_tests, ints, le-ltb, append_assoc, concat, acts_of, DesignValue, KeepsLimits, is_point_within, WriteFault, Loaded, AcceptedIsWithinLimits, loaded_with, first_refusal, unless_refused, EncodedActsRoundTrip, LIMIT, MAX_STOPS, HEADER_LENGTH, dst_meaning, dst_header_of, dst_reads, dst_records_in, dst_label_of, dst_end_record, dst_body_of, header_numbers_of, dst_encoding, dst_write_limits, dst_records_of, dst_file_of, list_all, moves_of_records}
use Rattle.format_traits.specs.Laws.{HasSameActs, MovesWithin, IsCodec}
use Rattle.dst_codec.proofs.HeaderLemmas.{length-dst_header_of}
use Rattle.dst_codec.proofs.ReadingLemmas.{dst_reads-file, dst_records_in-file}
use Rattle.dst_codec.proofs.WritingLemmas.{accepted_fit}
use Rattle.dst_codec.proofs.laws.Taken.{read_after, taken, rereads, ends}

-- the header of a design's file
abbrev pub head_of : DesignValue → List ℕ
head_of d = dst_header_of d.label (header_numbers_of d)

file_parts : (d : DesignValue) → dst_file_of d.label (acts_of d) ≡ head_of d ++ dst_body_of d
file_parts d = append_assoc (head_of d) (concat (dst_records_of (acts_of d))) dst_end_record

length-head_of : AcceptedIsWithinLimits → (d : DesignValue) → KeepsLimits d → first_refusal dst_write_limits (acts_of d) ≡ None
    → length (head_of d) ≡ HEADER_LENGTH
length-head_of small d limits passed =
    length-dst_header_of d.label (header_numbers_of d) limits.label.short (accepted_fit small d limits passed)

-- what the file of a design reads as
pub record Written (d : DesignValue) : Type 0 where
  pub loaded : Loaded
  pub read : dst_reads (dst_file_of d.label (acts_of d)) ≡ Ok loaded
  pub label : loaded.design.label ≡ dst_label_of (head_of d ++ dst_body_of d)
  pub again : HasSameActs d loaded
  pub within : MovesWithin dst_meaning (dst_file_of d.label (acts_of d))

pub written : AcceptedIsWithinLimits → EncodedActsRoundTrip → (d : DesignValue) → KeepsLimits d
    → first_refusal dst_write_limits (acts_of d) ≡ None → Written d
written small law d limits passed =
    let t = law read_after dst_encoding dst_write_limits taken rereads d limits passed HEADER_LENGTH dst_end_record ends in
    let long = length-head_of small d limits passed in
    let loaded : Loaded = record {
      design = record { label = dst_label_of (head_of d ++ dst_body_of d); threads = []; commands = t.commands };
      ended = true;
    } in
    record {
      loaded = loaded;
      read = ap dst_reads (file_parts d) ∙ dst_reads-file (head_of d) (dst_body_of d) long
          ∙ ap (loaded_with (dst_label_of (head_of d ++ dst_body_of d)) []) t.course;
      label = refl;
      again = record { acts = t.again; ended = refl };
      within = subst (λ records. IsTrue (list_all (λ move. is_point_within LIMIT move) (moves_of_records records)))
          (sym (ap dst_records_in (file_parts d) ∙ dst_records_in-file (head_of d) (dst_body_of d) long)) t.within;
    }

-- DST is a codec
pub dst_is_codec : AcceptedIsWithinLimits → EncodedActsRoundTrip
    → IsCodec dst_meaning dst_write_limits (λ d. dst_file_of d.label (acts_of d))
dst_is_codec small law = record {
  limit = refl;
  stops = λ count few. le-ltb MAX_STOPS count (omega (arith, few));
  writes = λ d. refl;
  again = λ d limits passed.
      let w = written small law d limits passed in
      subst (λ result. IsOkAnd result (λ loaded. HasSameActs d loaded)) (sym w.read) w.again;
  within = λ d limits passed. (written small law d limits passed).within;
}

-- a property of the file of each design that is not refused holds for the result of writing
pub of_written : (d : DesignValue) (P : List ℕ → Type 0) → (r : Option WriteFault) → first_refusal dst_write_limits (acts_of d) ≡ r
    → (first_refusal dst_write_limits (acts_of d) ≡ None → P (dst_file_of d.label (acts_of d)))
    → IfOk (unless_refused r (dst_file_of d.label (acts_of d))) P
of_written d P r h1 h2 = grind (arith, nat_tests, ints)
