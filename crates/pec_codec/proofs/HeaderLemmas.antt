-- The parts of a header.
use Rattle.std.proofs.Common.{◌≡◌, ℕ, ◌+◌, ◌≤◌, List, [], ◌∷◌, ◌++◌, length, arith, length-append}
use Rattle.pec_codec.proofs.Names.{nat_tests, append_assoc, length-map-range_with_len, MAX_LABEL, DesignValue, thread_of, extent_of, HEADER_LENGTH, LABELS_LENGTH, MAX_STOPS, distance_field, pec_header_of, labels_of, size_fields, threads_of, length-padded_right, map-range_with_len_more, padded_right}

-- the threads of one block more
pub threads_more : (d : DesignValue) (count thread : ℕ) (start out more : List ℕ) → thread ≡ thread_of d count
    → out ≡ start ++ threads_of d count → more ≡ out ++ thread ∷ [] → more ≡ start ++ threads_of d (count + 1)
threads_more d count thread start out more of_thread of_out of_more =
    grind (arith, nat_tests, append_assoc, (map-range_with_len_more (thread_of d) 0 count count))

-- the label and the threads of as many blocks as there may be have room
pub labels_fit : (d : DesignValue) (stops : ℕ) → length d.label ≤ MAX_LABEL → stops ≤ MAX_STOPS → length (labels_of d stops) ≤ LABELS_LENGTH
labels_fit d stops short few = grind (arith, nat_tests, d.label, length-padded_right, length-map-range_with_len, length-append)

-- a header has all its bytes
pub length-pec_header_of : (d : DesignValue) (stops distance : ℕ) → length (labels_of d stops) ≤ LABELS_LENGTH
    → length (pec_header_of d stops distance) ≡ HEADER_LENGTH
length-pec_header_of d stops distance room =
    let labels = padded_right LABELS_LENGTH (labels_of d stops) in
    omega (
      arith,
      length-append (labels ++ distance_field distance) (size_fields (extent_of d)),
      length-append labels (distance_field distance),
      length-padded_right LABELS_LENGTH (labels_of d stops) room,
    )
