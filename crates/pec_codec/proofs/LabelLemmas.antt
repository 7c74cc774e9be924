-- The label and the threads of a block are read back.
use Rattle.std.proofs.Common.{◌≡◌, ℕ, zero, suc, ◌+◌, ◌-◌, ◌<◌, ◌≤◌, ◌%◌, List, [], ◌∷◌, ◌++◌, length, map, take, replicate, codes, Some, unwrap_or, slice_get, ap, ◌∙◌, arith, length-append}
use Rattle.pec_codec.proofs.Names.{nat_tests, append_assoc, drop_at, length-map-range_with_len, range_with_len, MAX_LABEL, acts_of, DesignValue, thread_of, extent_of, stops_of, LABELS_LENGTH, MAX_STOPS, distance_field, pec_label_of, labels_of, size_fields, threads_in, threads_of, pec_block_of, pec_body_of, thumbnail_distance, thumbnails_of, length-padded_right, get_or_at, take_at, label_field, label_in}

-- the bytes between the label and the number of blocks
abbrev between : List ℕ
between = 13 ∷ replicate 12 32 ++ 255 ∷ 0 ∷ 6 ∷ 38 ∷ replicate 12 32

-- what stands after the threads
abbrev behind : DesignValue → List ℕ
behind d = let stops = stops_of (acts_of d) in
    replicate (LABELS_LENGTH - length (labels_of d stops)) 32
    ++ (distance_field (thumbnail_distance (pec_body_of d)) ++ (size_fields (extent_of d)
    ++ (pec_body_of d ++ thumbnails_of stops)))

-- a block by its label and its threads
pub block_parts : (d : DesignValue) → pec_block_of d
    ≡ (codes "LA:" ++ (label_field d.label ++ between))
    ++ stops_of (acts_of d) ∷ (threads_of d (stops_of (acts_of d) + 1) ++ behind d)
block_parts d =
    let stops = stops_of (acts_of d) in
    parts (label_field d.label) (threads_of d (stops + 1))
    (replicate (LABELS_LENGTH - length (labels_of d stops)) 32) (distance_field (thumbnail_distance (pec_body_of d)))
    (size_fields (extent_of d)) (pec_body_of d) (thumbnails_of stops) stops
  where
    parts : (label threads pad distance sizes body thumbnails : List ℕ) (stops : ℕ)
        → codes "LA:" ++ label ++ 13 ∷ replicate 12 32 ++ 255 ∷ 0 ∷ 6 ∷ 38 ∷ replicate 12 32 ++ stops ∷ threads
        ++ pad ++ distance ++ sizes ++ body ++ thumbnails
        ≡ (codes "LA:" ++ (label ++ between)) ++ stops ∷ (threads ++ (pad ++ (distance ++ (sizes ++ (body ++ thumbnails)))))
    parts label threads pad distance sizes body thumbnails stops = simp append_assoc

-- the label that a block holds
pec_label_of-parts : (label rest : List ℕ) → length label ≡ MAX_LABEL
    → pec_label_of ((codes "LA:" ++ (label ++ between)) ++ rest) ≡ label_in label
pec_label_of-parts label rest is =
    ap label_in (ap (take MAX_LABEL) (append_assoc label between rest) ∙ take_at label (between ++ rest) MAX_LABEL is)

-- the threads that it names
threads_in-parts : (front threads rest : List ℕ) (stops : ℕ) → length front ≡ 48 → stops ≤ MAX_STOPS
    → length threads ≡ stops + 1 → threads_in (front ++ stops ∷ (threads ++ rest)) ≡ threads
threads_in-parts front threads rest stops of_front few of_threads =
    let number = get_or_at front stops (threads ++ rest) 0 48 of_front in
    grind (arith, nat_tests, append_assoc, length-append, number, (drop_at (front ++ stops ∷ []) (threads ++ rest) 49), take_at)

length-label_field : (label : List ℕ) → length label ≤ MAX_LABEL → length (label_field label) ≡ MAX_LABEL
length-label_field label short = length-padded_right MAX_LABEL label short

pub pec_label_of-block : (d : DesignValue) → length d.label ≤ MAX_LABEL → pec_label_of (pec_block_of d) ≡ label_in (label_field d.label)
pec_label_of-block d short = ap pec_label_of (block_parts d)
    ∙ pec_label_of-parts (label_field d.label) _ (length-label_field d.label short)

pub threads_in-block : (d : DesignValue) → length d.label ≤ MAX_LABEL → stops_of (acts_of d) ≤ MAX_STOPS
    → threads_in (pec_block_of d) ≡ threads_of d (stops_of (acts_of d) + 1)
threads_in-block d short few =
    let stops = stops_of (acts_of d) in
    let front = codes "LA:" ++ (label_field d.label ++ between) in
    let long : length front ≡ 48 = omega (
      arith,
      length-append (label_field d.label) between,
      length-label_field d.label short,
    ) in
    ap threads_in (block_parts d)
    ∙ threads_in-parts front (threads_of d (stops + 1)) (behind d) stops long few
    (length-map-range_with_len (thread_of d) 0 (stops + 1))

-- the thread of a block is the one in the header
slice_get-threads : (f : ℕ → ℕ) (a n k : ℕ) → k < n → slice_get (map f (range_with_len a n)) k ≡ Some (f (a + k))
slice_get-threads f a zero k few = absurd (omega arith)
slice_get-threads f a (suc n) zero few = let same : a ≡ a + 0 = omega arith in ap (λ b. Some (f b)) same
slice_get-threads f a (suc n) (suc k) few = grind (arith, nat_tests, (slice_get-threads f (a + 1) n k (omega arith)))

pub thread_of-threads : (d : DesignValue) (stops block : ℕ) → block ≤ stops
    → unwrap_or (slice_get (threads_of d (stops + 1)) block) (1 + block % 64) ≡ thread_of d block
thread_of-threads d stops block few = grind (arith, nat_tests, slice_get-threads)
