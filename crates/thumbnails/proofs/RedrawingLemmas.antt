-- A written file with thumbnails reads as without them.
use Rattle.std.proofs.Common.{◌≡◌, ℕ, ◌+◌, ◌-◌, ◌*◌, ◌≤◌, nat_lt, true, false, List, ◌++◌, length, drop, take, replicate, Option, Some, None, Ok, IfOk, IsOkAnd, refl, ap, sym, ◌∙◌, subst, arith, length-append}
use Rattle.std.proofs.lemmas.Bool.{le-ltb}
use Rattle.std.proofs.lemmas.List.{append_assoc, drop_at, length-replicate, take_at}
use Rattle.design_model.specs.Acts.{acts_of}
use Rattle.design_model.specs.Designs.{DesignValue, KeepsLimits}
use Rattle.design_model.specs.Points.{origin}
use Rattle.format_traits.specs.declared.fault.WriteFault.{WriteFault}
use Rattle.format_traits.specs.Accepted.{AcceptedIsWithinLimits}
use Rattle.format_traits.specs.LabelFields.{label_field, label_in}
use Rattle.format_traits.specs.Laws.{HasSameActs, KeepsAllLaws, RoundTrips}
use Rattle.format_traits.specs.Meanings.{Meaning}
use Rattle.format_traits.specs.Refusals.{first_refusal, stops_of, unless_refused}
use Rattle.pec_codec.specs.declared.block.TheConstants.{HEADER_LENGTH, MAX_STOPS}
use Rattle.pec_codec.specs.Header.{pec_header_of, threads_of}
use Rattle.pec_codec.specs.Reading.{pec_block_layout}
use Rattle.pec_codec.specs.Records.{pec_records}
use Rattle.pec_codec.specs.Writing.{pec_block_of, pec_body_of, pec_write_limits, thumbnail_distance, thumbnails_of}
use Rattle.pes_codec.specs.declared.file_kind.FileKind.{FileKind}
use Rattle.pes_codec.specs.declared.file_kind.FileKind.TheVariants.{Pec, Pes}
use Rattle.pes_codec.specs.Formats.{file_meaning, pec_meaning, pes_meaning}
use Rattle.pes_codec.specs.Fronts.{front_layout_of, front_of}
use Rattle.pes_codec.specs.Reading.{file_moves, file_reads}
use Rattle.pes_codec.specs.Writing.{after_front}
use Rattle.record_formats.specs.Layouts.{layout_reads}
use Rattle.record_formats.specs.Readings.{loaded_with}
use Rattle.record_formats.specs.Records.{Records, file_commands, moves_of_records}
use Rattle.thumbnails.specs.Redrawings.{IsRedrawn, MayBeRedrawn, ThumbnailsAreNotRead, before_thumbnails, with_thumbnails_of}
use Rattle.thumbnails.specs.Sketches.{drawn_thumbnails_of}
use Rattle.thumbnails.specs.Tails.{has_end}
use Rattle.thumbnails.proofs.EndLemmas.{end_there, read_to_end}
use Rattle.thumbnails.proofs.HeaderLemmas.{length-header, reads_header}
use Rattle.thumbnails.proofs.LengthLemmas.{length-drawn}
use Rattle.thumbnails.proofs.TailLemmas.{tails}

-- A front that is known, and the block after it.
record IsKnownFront (kind : FileKind) (block : List ℕ) : Type 0 where
  known : (front_layout_of kind).known (front_of kind ++ block) ≡ true
  long : (front_layout_of kind).length ≤ length (front_of kind)
  is : (front_layout_of kind).block (front_of kind ++ block) ≡ length (front_of kind)

known_front : (kind : FileKind) (block : List ℕ) → IsKnownFront kind block
known_front Pec block = record { known = refl; long = omega arith; is = refl }
known_front Pes block = record { known = refl; long = omega arith; is = refl }

module _ (kind : FileKind) where
  abbrev at : ℕ
  at = length (front_of kind)

  whole : (block : List ℕ) → nat_lt (length (front_of kind ++ block)) (front_layout_of kind).length ≡ false
  whole block = le-ltb (length (front_of kind ++ block)) (front_layout_of kind).length
      (omega (arith, (known_front kind block).long, length-append (front_of kind) block))

  there : (block : List ℕ) → nat_lt (length (front_of kind ++ block)) at ≡ false
  there block = le-ltb (length (front_of kind ++ block)) at (omega (arith, length-append (front_of kind) block))

  -- A file reads as its block, and has the moves of its block.
  reads_block : (block : List ℕ) → file_reads kind (front_of kind ++ block) ≡ layout_reads pec_block_layout at block
  reads_block block = let front = known_front kind block in
      let here : 0 + at ≡ at = omega arith in
      rw (front.known, whole block, front.is, there block)
      (ap (λ n. layout_reads pec_block_layout n (drop at (front_of kind ++ block))) here
      ∙ ap (layout_reads pec_block_layout at) (drop_at (front_of kind) block at refl))

  moves_block : (header rest : List ℕ) → length header ≡ HEADER_LENGTH
      → file_moves kind (front_of kind ++ (header ++ rest)) ≡ moves_of_records (pec_records (at + HEADER_LENGTH) rest)
  moves_block header rest long =
      let front = known_front kind (header ++ rest) in
      let all : length (front_of kind ++ header) ≡ at + HEADER_LENGTH = omega (arith, long, length-append (front_of kind) header) in
      rw (front.known, whole (header ++ rest), front.is)
      (ap (λ bytes. moves_of_records (pec_records (at + HEADER_LENGTH) bytes))
      (ap (drop (at + HEADER_LENGTH)) (sym (append_assoc (front_of kind) header rest))
      ∙ drop_at (front_of kind ++ header) rest (at + HEADER_LENGTH) all))

-- The bytes before those that are replaced.
kept : (file before blank drawn : List ℕ) → file ≡ before ++ blank → length blank ≡ length drawn
    → take (length file - length drawn) file ≡ before
kept file before blank drawn is same =
    let count : length file - length drawn ≡ length before = omega (arith, (ap length is), length-append before blank, same) in
    ap (λ n. take n file) count ∙ ap (take (length before)) is ∙ take_at before blank (length before) refl

-- The parts of a file, and of what is read of it.
parts : (front header body tail : List ℕ) → front ++ (header ++ body ++ tail) ≡ front ++ (header ++ (body ++ tail))
parts front header body tail = simp append_assoc

joined : (front header body tail : List ℕ) → front ++ (header ++ body ++ tail) ≡ (front ++ (header ++ body)) ++ tail
joined front header body tail = simp append_assoc

module _ (kind : FileKind) (d : DesignValue) where
  abbrev stops : ℕ
  stops = stops_of (acts_of d)

  abbrev header : List ℕ
  header = pec_header_of d stops (thumbnail_distance (pec_body_of d))

  -- The file with some bytes at its end.
  abbrev ending_in : List ℕ → List ℕ
  ending_in tail = front_of kind ++ (header ++ pec_body_of d ++ tail)

  abbrev offset : ℕ
  offset = length (front_of kind) + HEADER_LENGTH

  redrawn : KeepsLimits d → stops ≤ MAX_STOPS
      → RoundTrips (file_meaning kind) d (front_of kind ++ pec_block_of d)
      → IsRedrawn (file_meaning kind) d (front_of kind ++ pec_block_of d)
  redrawn limits few again =
      let body = pec_body_of d in
      let blank = thumbnails_of stops in
      let drawn = drawn_thumbnails_of d in
      let file = ending_in blank in
      let short = limits.label.short in
      let long : length header ≡ HEADER_LENGTH = length-header d stops (thumbnail_distance body) short few in
      let read : (tail : List ℕ) → file_reads kind (ending_in tail)
      ≡ loaded_with (label_in (label_field d.label)) (threads_of d (stops + 1)) (file_commands (pec_records offset (body ++ tail))) =
      λ tail. ap (file_reads kind) (parts (front_of kind) header body tail) ∙ reads_block kind (header ++ (body ++ tail))
      ∙ reads_header d stops (thumbnail_distance body) (length (front_of kind)) (body ++ tail) short few in
      let moved : (tail : List ℕ) → file_moves kind (ending_in tail) ≡ moves_of_records (pec_records offset (body ++ tail)) =
      λ tail. ap (file_moves kind) (parts (front_of kind) header body tail) ∙ moves_block kind header (body ++ tail) long in
      let ended : has_end (pec_records offset (body ++ blank)) ≡ true =
      end_there 0 origin (pec_records offset (body ++ blank))
      (read_to_end d (label_in (label_field d.label)) (threads_of d (stops + 1)) (file_commands (pec_records offset (body ++ blank)))
      (subst (λ result. IsOkAnd result (λ loaded. HasSameActs d loaded)) (read blank) again)) in
      let same : pec_records offset (body ++ drawn) ≡ pec_records offset (body ++ blank) =
      tails body drawn (228 * (stops + 2)) 0 offset ended in
      let count : length drawn ≡ 228 * (stops + 2) = length-drawn d in
      let blanks : length blank ≡ length drawn = length-replicate (228 * (stops + 2)) 0 ∙ sym count in
      let before : before_thumbnails d file ≡ front_of kind ++ (header ++ body) =
      kept file (front_of kind ++ (header ++ body)) blank drawn (joined (front_of kind) header body blank) blanks in
      let with_drawn : with_thumbnails_of d file ≡ ending_in drawn =
      ap (λ first. first ++ drawn) before ∙ sym (joined (front_of kind) header body drawn) in
      record {
        blank = joined (front_of kind) header body blank
            ∙ ap (λ first. first ++ blank) (sym before) ∙ ap (λ n. before_thumbnails d file ++ replicate n 0) (sym count);
        reads = ap (file_reads kind) with_drawn ∙ read drawn
            ∙ ap (λ (records : Records). loaded_with (label_in (label_field d.label)) (threads_of d (stops + 1))
            (file_commands records)) same
            ∙ sym (read blank);
        moves = ap (file_moves kind) with_drawn ∙ moved drawn ∙ ap moves_of_records same ∙ sym (moved blank);
        size = ap length with_drawn ∙ ap length (joined (front_of kind) header body drawn)
            ∙ length-append (front_of kind ++ (header ++ body)) drawn
            ∙ ap (λ n. length (front_of kind ++ (header ++ body)) + n) (sym blanks)
            ∙ sym (length-append (front_of kind ++ (header ++ body)) blank)
            ∙ sym (ap length (joined (front_of kind) header body blank));
      }

laws_of : KeepsAllLaws pec_meaning → KeepsAllLaws pes_meaning → (kind : FileKind) → KeepsAllLaws (file_meaning kind)
laws_of pec pes Pec = pec
laws_of pec pes Pes = pes

pub not_read : KeepsAllLaws pec_meaning → KeepsAllLaws pes_meaning → AcceptedIsWithinLimits → ThumbnailsAreNotRead
not_read pec pes accepted kind d limits = unless (first_refusal pec_write_limits (acts_of d)) refl
  where
    unless : (refusal : Option WriteFault) → first_refusal pec_write_limits (acts_of d) ≡ refusal
        → IfOk (after_front (front_of kind) (unless_refused refusal (pec_block_of d))) (λ file. IsRedrawn (file_meaning kind) d file)
    unless (Some why) refused = tt
    unless None passed = redrawn kind d limits ((accepted pec_write_limits d limits passed).stops MAX_STOPS refl)
        (subst (λ refusal. IfOk (after_front (front_of kind) (unless_refused refusal (pec_block_of d)))
        (λ bytes. RoundTrips (file_meaning kind) d bytes)) passed (laws_of pec pes kind d limits).again)

-- Whichever format wrote the file, if it is one of the two.
pub in_any_format : ThumbnailsAreNotRead → (d : DesignValue) → KeepsLimits d → (file : List ℕ) (m : Meaning) → m.writes d ≡ Ok file
    → MayBeRedrawn m d file
in_any_format law d limits file m written kind is = subst (λ (n : Meaning). IsRedrawn n d file) (sym is)
    (subst (λ result. IfOk result (λ bytes. IsRedrawn (file_meaning kind) d bytes))
    (ap (λ (n : Meaning). n.writes d) (sym is) ∙ written) (law kind d limits))
