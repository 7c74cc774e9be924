-- A block of a header and records: its label, its threads and its records.
use Rattle.std.proofs.Common.{◌≡◌, ℕ, ◌+◌, ◌-◌, ◌≤◌, nat_lt, false, List, [], ◌∷◌, ◌++◌, length, drop, take, replicate, codes, ap, ◌∙◌, arith, length-append}
use Rattle.std.proofs.lemmas.Bool.{le-ltb}
use Rattle.std.proofs.lemmas.Bool.Decides.{nat_tests}
use Rattle.std.proofs.lemmas.List.{append_assoc, drop_at, get_or_at, take_at}
use Rattle.std.proofs.lemmas.List.FromFn.{length-map-range_with_len}
use Rattle.design_model.specs.declared.design.TheConstants.{MAX_LABEL}
use Rattle.design_model.specs.Designs.{DesignValue, thread_of}
use Rattle.design_model.specs.Extents.{extent_of}
use Rattle.format_traits.proofs.CallerLemmas.{length-padded_right}
use Rattle.format_traits.specs.LabelFields.{label_field, label_in, padded_right}
use Rattle.pec_codec.specs.declared.block.TheConstants.{HEADER_LENGTH, LABELS_LENGTH, MAX_STOPS}
use Rattle.pec_codec.specs.Header.{distance_field, labels_of, pec_header_of, pec_label_of, size_fields, threads_in, threads_of}
use Rattle.pec_codec.specs.Reading.{pec_block_layout}
use Rattle.pec_codec.specs.Records.{pec_records}
use Rattle.record_formats.specs.Layouts.{layout_reads}
use Rattle.record_formats.specs.Readings.{loaded_with}
use Rattle.record_formats.specs.Records.{file_commands}

-- The bytes between the label and the number of stops.
abbrev between : List ℕ
between = 13 ∷ replicate 12 32 ++ 255 ∷ 0 ∷ 6 ∷ 38 ∷ replicate 12 32

-- A header and what follows it, by the label and the threads.
header_parts : (d : DesignValue) (stops distance : ℕ) (rest : List ℕ) → pec_header_of d stops distance ++ rest
    ≡ (codes "LA:" ++ (label_field d.label ++ between)) ++ stops ∷ (threads_of d (stops + 1)
    ++ (replicate (LABELS_LENGTH - length (labels_of d stops)) 32 ++ (distance_field distance ++ (size_fields (extent_of d) ++ rest))))
header_parts d stops distance rest =
    parts (label_field d.label) (threads_of d (stops + 1)) (replicate (LABELS_LENGTH - length (labels_of d stops)) 32)
    (distance_field distance) (size_fields (extent_of d))
  where
    parts : (label threads pad distances sizes : List ℕ)
        → codes "LA:" ++ label ++ 13 ∷ replicate 12 32 ++ 255 ∷ 0 ∷ 6 ∷ 38 ∷ replicate 12 32 ++ stops ∷ threads
        ++ pad ++ distances ++ sizes ++ rest
        ≡ (codes "LA:" ++ (label ++ between)) ++ stops ∷ (threads ++ (pad ++ (distances ++ (sizes ++ rest))))
    parts label threads pad distances sizes = simp append_assoc

length-label : (label : List ℕ) → length label ≤ MAX_LABEL → length (label_field label) ≡ MAX_LABEL
length-label label short = length-padded_right MAX_LABEL label short

-- The label of such a block.
label_of_parts : (label rest : List ℕ) → length label ≡ MAX_LABEL
    → pec_label_of ((codes "LA:" ++ (label ++ between)) ++ rest) ≡ label_in label
label_of_parts label rest is =
    ap label_in (ap (take MAX_LABEL) (append_assoc label between rest) ∙ take_at label (between ++ rest) MAX_LABEL is)

pub label_of_header : (d : DesignValue) (stops distance : ℕ) (rest : List ℕ) → length d.label ≤ MAX_LABEL
    → pec_label_of (pec_header_of d stops distance ++ rest) ≡ label_in (label_field d.label)
label_of_header d stops distance rest short =
    ap pec_label_of (header_parts d stops distance rest) ∙ label_of_parts (label_field d.label) _ (length-label d.label short)

-- The threads of such a block.
threads_of_parts : (front threads rest : List ℕ) (stops : ℕ) → length front ≡ 48 → stops ≤ MAX_STOPS
    → length threads ≡ stops + 1 → threads_in (front ++ stops ∷ (threads ++ rest)) ≡ threads
threads_of_parts front threads rest stops of_front few of_threads =
    let number = get_or_at front stops (threads ++ rest) 0 48 of_front in
    grind (arith, nat_tests, append_assoc, length-append, number, (drop_at (front ++ stops ∷ []) (threads ++ rest) 49), take_at)

pub threads_of_header : (d : DesignValue) (stops distance : ℕ) (rest : List ℕ) → length d.label ≤ MAX_LABEL → stops ≤ MAX_STOPS
    → threads_in (pec_header_of d stops distance ++ rest) ≡ threads_of d (stops + 1)
threads_of_header d stops distance rest short few =
    let front = codes "LA:" ++ (label_field d.label ++ between) in
    let long : length front ≡ 48 = omega (arith, length-append (label_field d.label) between, length-label d.label short) in
    ap threads_in (header_parts d stops distance rest)
    ∙ threads_of_parts front (threads_of d (stops + 1)) _ stops long few (length-map-range_with_len (thread_of d) 0 (stops + 1))

-- A header has all its bytes.
labels_fit : (d : DesignValue) (stops : ℕ) → length d.label ≤ MAX_LABEL → stops ≤ MAX_STOPS → length (labels_of d stops) ≤ LABELS_LENGTH
labels_fit d stops short few = grind (arith, nat_tests, d.label, length-padded_right, length-map-range_with_len, length-append)

pub length-header : (d : DesignValue) (stops distance : ℕ) → length d.label ≤ MAX_LABEL → stops ≤ MAX_STOPS
    → length (pec_header_of d stops distance) ≡ HEADER_LENGTH
length-header d stops distance short few =
    let labels = padded_right LABELS_LENGTH (labels_of d stops) in
    omega (
      arith,
      length-append (labels ++ distance_field distance) (size_fields (extent_of d)),
      length-append labels (distance_field distance),
      length-padded_right LABELS_LENGTH (labels_of d stops) (labels_fit d stops short few),
    )

-- What such a block reads as.
pub reads_header : (d : DesignValue) (stops distance at : ℕ) (rest : List ℕ) → length d.label ≤ MAX_LABEL → stops ≤ MAX_STOPS
    → layout_reads pec_block_layout at (pec_header_of d stops distance ++ rest)
    ≡ loaded_with (label_in (label_field d.label)) (threads_of d (stops + 1)) (file_commands (pec_records (at + HEADER_LENGTH) rest))
reads_header d stops distance at rest short few =
    let header = pec_header_of d stops distance in
    let long : length header ≡ HEADER_LENGTH = length-header d stops distance short few in
    let whole : nat_lt (length (header ++ rest)) HEADER_LENGTH ≡ false =
    le-ltb (length (header ++ rest)) HEADER_LENGTH (omega (arith, long, length-append header rest)) in
    rw whole (ap (λ label. loaded_with label (threads_in (header ++ rest))
    (file_commands (pec_records (at + HEADER_LENGTH) (drop HEADER_LENGTH (header ++ rest)))))
    (label_of_header d stops distance rest short)
    ∙ ap (λ threads. loaded_with (label_in (label_field d.label)) threads
    (file_commands (pec_records (at + HEADER_LENGTH) (drop HEADER_LENGTH (header ++ rest)))))
    (threads_of_header d stops distance rest short few)
    ∙ ap (λ bytes. loaded_with (label_in (label_field d.label)) (threads_of d (stops + 1))
    (file_commands (pec_records (at + HEADER_LENGTH) bytes))) (drop_at header rest HEADER_LENGTH long))
