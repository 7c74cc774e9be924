-- The label of a design is read back from its file.
use Rattle.std.proofs.Common.{◌≡◌, ℕ, List, ◌++◌, length, take, IsOkAnd, refl, sym, ◌∙◌, subst, arith}
use Rattle.dst_codec.proofs.Names.{nat_tests, append_assoc, MAX_LABEL, acts_of, label_field, AcceptedIsWithinLimits, first_refusal, EncodedActsRoundTrip, HeaderNumbers, dst_header_of, LabelRoundTrips, dst_reads, dst_label_of, dst_body_of, header_numbers_of, dst_write_limits, take_at, label_in, LabelFieldsRoundTrip}
use Rattle.dst_codec.proofs.laws.Again.{written, of_written}

-- the first of many parts
front : (z a b c d e f g h i j k l m n o : List ℕ) → length z ≡ 16
    → take 16 (z ++ a ++ b ++ c ++ d ++ e ++ f ++ g ++ h ++ i ++ j ++ k ++ l ++ m ++ n ++ o) ≡ z
front z a b c d e f g h i j k l m n o is = simp append_assoc (take_at z _ 16 is)

-- the label that a file holds
label_of-file : (label : List ℕ) (numbers : HeaderNumbers) (body : List ℕ) → length (label_field label) ≡ MAX_LABEL
    → dst_label_of (dst_header_of label numbers ++ body) ≡ label_in (label_field label)
label_of-file label numbers body places =
    grind (
      arith,
      nat_tests,
      front,
      numbers.records,
      numbers.stops,
      numbers.extents.right,
      numbers.extents.left,
      numbers.extents.up,
      numbers.extents.down,
      numbers.last.x,
      numbers.last.y,
    )

-- the label is read back
pub label_reads_again : AcceptedIsWithinLimits → EncodedActsRoundTrip → LabelFieldsRoundTrip → LabelRoundTrips
label_reads_again small law fields d limits =
    of_written d (λ bytes. IsOkAnd (dst_reads bytes) (λ loaded. loaded.design.label ≡ d.label)) (first_refusal dst_write_limits (acts_of d))
    refl (λ passed. let w = written small law d limits passed in
    let field = fields d.label limits.label in
    let same : w.loaded.design.label ≡ d.label = w.label
    ∙ label_of-file d.label (header_numbers_of d) (dst_body_of d) field.places
    ∙ field.back in
    subst (λ result. IsOkAnd result (λ loaded. loaded.design.label ≡ d.label)) (sym w.read) same)
