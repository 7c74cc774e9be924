-- The block of a design reads back, wherever in a file it stands.
use Rattle.std.proofs.Common.{◌≡◌, ℕ, ◌+◌, ◌≤◌, true, IsTrue, false, nat_lt, List, [], ◌∷◌, ◌++◌, length, drop, Option, None, Ok, IfOk, IsOkAnd, refl, ap, sym, ◌∙◌, subst, arith, length-append}
use Rattle.pec_codec.proofs.Names.{nat_tests, ints, le-ltb, append_assoc, drop_at, concat, list_all, acts_of, DesignValue, KeepsLimits, is_point_within, WriteFault, Loaded, AcceptedIsWithinLimits, loaded_with, file_commands, stops_of, HEADER_LENGTH, LIMIT, MAX_STOPS, pec_header_of, pec_label_of, threads_in, threads_of, BlocksKeepLaws, RestoresDesign, BlockRoundTrips, pec_block_moves, pec_block_reads, pec_block_records, pec_block_shown, pec_records, pec_block_of, pec_body_of, thumbnail_distance, pec_write_limits, pec_encoding, thumbnails_of, pec_block_writes, LabelFieldsRoundTrip, CodecsKeepLaws, IsCodec, moves_of_records, first_refusal, unless_refused, EncodedActsRoundTrip, records_of_acts}
use Rattle.format_traits.specs.Meanings.{Meaning}
use Rattle.pec_codec.proofs.HeaderLemmas.{labels_fit, length-pec_header_of}
use Rattle.pec_codec.proofs.LabelLemmas.{pec_label_of-block, thread_of-threads, threads_in-block}
use Rattle.pec_codec.proofs.ReadingLemmas.{reads-long}
use Rattle.pec_codec.proofs.RoundTripLemmas.{rereads, taken}
use Rattle.pec_codec.proofs.CallerLemmas.{again_from}

-- the end, and what follows it
abbrev tail_of : DesignValue → List ℕ
tail_of d = 255 ∷ thumbnails_of (stops_of (acts_of d))

-- what stands after a header
block_body : (d : DesignValue) → pec_body_of d ++ thumbnails_of (stops_of (acts_of d))
    ≡ concat (records_of_acts pec_encoding pec_write_limits (acts_of d)) ++ tail_of d
block_body d = append_assoc (concat (records_of_acts pec_encoding pec_write_limits (acts_of d))) (255 ∷ [])
    (thumbnails_of (stops_of (acts_of d)))

-- the records of a block that stands after other bytes
pec_block_records-block : (d : DesignValue) (before : List ℕ)
    → length (pec_header_of d (stops_of (acts_of d)) (thumbnail_distance (pec_body_of d))) ≡ HEADER_LENGTH
    → pec_block_records (length before) (before ++ pec_block_of d)
    ≡ pec_records (length before + HEADER_LENGTH) (concat (records_of_acts pec_encoding pec_write_limits (acts_of d)) ++ tail_of d)
pec_block_records-block d before long =
    let header = pec_header_of d (stops_of (acts_of d)) (thumbnail_distance (pec_body_of d)) in
    let rest = pec_body_of d ++ thumbnails_of (stops_of (acts_of d)) in
    let parts : before ++ pec_block_of d ≡ (before ++ header) ++ rest =
    ap (λ block. before ++ block) (append_assoc header (pec_body_of d) (thumbnails_of (stops_of (acts_of d))))
    ∙ sym (append_assoc before header rest) in
    let all : length (before ++ header) ≡ length before + HEADER_LENGTH = length-append before header ∙ ap (λ n. length before + n) long in
    ap (λ bytes. pec_block_records (length before) bytes) parts
    ∙ ap (pec_records (length before + HEADER_LENGTH))
    (drop_at (before ++ header) rest (length before + HEADER_LENGTH) all ∙ block_body d)

-- what is known of the header of a design that is not refused
header_long : AcceptedIsWithinLimits → (d : DesignValue) → KeepsLimits d → first_refusal pec_write_limits (acts_of d) ≡ None
    → (stops_of (acts_of d) ≤ MAX_STOPS)
    × (length (pec_header_of d (stops_of (acts_of d)) (thumbnail_distance (pec_body_of d))) ≡ HEADER_LENGTH)
header_long accepted d limits passed = grind (arith, nat_tests, length-pec_header_of, labels_fit, limits.label.short)

-- a block reaches to its records
block_long : (before header body thumbnails : List ℕ) → length header ≡ HEADER_LENGTH
    → length before + HEADER_LENGTH ≤ length (before ++ (header ++ body ++ thumbnails))
block_long before header body thumbnails long = grind (arith, nat_tests, length-append)

pub block_back : EncodedActsRoundTrip → AcceptedIsWithinLimits → LabelFieldsRoundTrip → (d : DesignValue) → KeepsLimits d
    → first_refusal pec_write_limits (acts_of d) ≡ None → (before : List ℕ) → BlockRoundTrips d (pec_block_of d) before
block_back spelled accepted fields d limits passed before =
    let known = header_long accepted d limits passed in
    let at = length before in
    let bytes = before ++ pec_block_of d in
    let records = pec_block_records-block d before known.1 in
    let told = spelled (λ run. pec_records) pec_encoding pec_write_limits taken rereads d limits passed (at + HEADER_LENGTH) (tail_of d)
    (λ run at. refl) in
    let course : file_commands (pec_block_records at bytes) ≡ Ok (record { commands = told.commands; ended = true }) =
    ap file_commands records ∙ told.course in
    let block : drop at bytes ≡ pec_block_of d = drop_at before (pec_block_of d) at refl in
    let label : pec_label_of (drop at bytes) ≡ d.label =
    ap pec_label_of block ∙ pec_label_of-block d limits.label.short ∙ (fields d.label limits.label).back in
    let threads : threads_in (drop at bytes) ≡ threads_of d (stops_of (acts_of d) + 1) =
    ap threads_in block ∙ threads_in-block d limits.label.short known.0 in
    let loaded : Loaded = record {
      design = record {
        label = d.label;
        threads = threads_of d (stops_of (acts_of d) + 1);
        commands = told.commands;
      };
      ended = true;
    } in
    let read : pec_block_reads at bytes ≡ Ok loaded =
    reads-long at bytes (block_long before (pec_header_of d (stops_of (acts_of d)) (thumbnail_distance (pec_body_of d))) (pec_body_of d)
    (thumbnails_of (stops_of (acts_of d))) known.1)
    ∙ ap (λ text. loaded_with text (threads_in (drop at bytes)) (file_commands (pec_block_records at bytes))) label
    ∙ ap (λ numbers. loaded_with d.label numbers (file_commands (pec_block_records at bytes))) threads
    ∙ ap (loaded_with d.label (threads_of d (stops_of (acts_of d) + 1))) course in
    let back : RestoresDesign d loaded = record {
      again = record { acts = told.again; ended = refl };
      label = refl;
      threads = λ k few. thread_of-threads d (stops_of (acts_of d)) k few;
    } in
    record {
      read = subst (λ result. IsOkAnd result (λ loaded. RestoresDesign d loaded)) (sym read) back;
      within = subst (λ rs. IsTrue (list_all (λ move. is_point_within LIMIT move) (moves_of_records rs))) (sym records) told.within;
    }

-- what holds of the block of a design that is not refused, holds of what is written
of_written : (d : DesignValue) (P : List ℕ → Type 0) → (r : Option WriteFault) → first_refusal pec_write_limits (acts_of d) ≡ r
    → (first_refusal pec_write_limits (acts_of d) ≡ None → P (pec_block_of d)) → IfOk (unless_refused r (pec_block_of d)) P
of_written d P r h1 h2 = grind (arith, nat_tests, ints)

-- a file that is a block alone, as a format
abbrev alone : Meaning
alone = record {
  ending = [];
  limit = LIMIT;
  reads = pec_block_reads 0;
  writes = pec_block_writes;
  moves = pec_block_moves 0;
  shown = pec_block_shown 0;
}

fewer_stops : (count : ℕ) → count ≤ 254 → nat_lt MAX_STOPS count ≡ false
fewer_stops count few = le-ltb MAX_STOPS count few

is_codec : EncodedActsRoundTrip → AcceptedIsWithinLimits → LabelFieldsRoundTrip → IsCodec alone pec_write_limits pec_block_of
is_codec spelled accepted fields = record {
  limit = refl;
  stops = fewer_stops;
  writes = λ d. refl;
  again = λ d limits passed. again_from d (pec_block_reads 0 (pec_block_of d))
      (block_back spelled accepted fields d limits passed []).read;
  within = λ d limits passed. (block_back spelled accepted fields d limits passed []).within;
}

-- all blocks keep the laws of blocks
pub blocks_keep_laws : EncodedActsRoundTrip → AcceptedIsWithinLimits → CodecsKeepLaws → LabelFieldsRoundTrip → BlocksKeepLaws
blocks_keep_laws spelled accepted codecs fields d limits = record {
  back = of_written d (λ block. (before : List ℕ) → BlockRoundTrips d block before) (first_refusal pec_write_limits (acts_of d)) refl
      (λ passed. block_back spelled accepted fields d limits passed);
  plain = (codecs alone pec_write_limits pec_block_of (is_codec spelled accepted fields) d limits).plain;
}
