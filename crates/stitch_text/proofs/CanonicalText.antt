-- A text that reads as a design is what that design is written as.
use Rattle.std.proofs.Common.{◌≡◌, ℕ, ◌+◌, ◌<◌, Bool, true, false, IfOk, IsOk, IsOkAnd, List, [], ◌∷◌, ◌++◌, Option, Some, None, Result, Ok, Err, bytes_eq, codes, decimal, length, refl, ap, sym, ◌∙◌, subst, arith}
use Rattle.stitch_text.proofs.Names.{nat_tests, ints, join_with_byte-slice_split, bytes_eq-Decides, join_with_byte, acts_from, acts_of, DesignValue, empty_design, thread_of, with_label, IsLabel, ReadFault, WriteFault, Loaded, HasSameActs, initial_encoder_state, first_refusal_from, unless_refused, ListLine, list_meaning, IsTextOf, ReadsAsWritten, ReadsWhereWritten, parsed_label, parsed_list_line, ParsedList, begun_draft, parsed_from_block, after_block_line, after_label_line, after_signature_line, parsed_from_label, with_next_line, list_reads, parsed_text, parsed_thread, act_lines, list_block_line, signature_line, label_line, list_of, list_write_limits, parts_between, KeepsAllLaws, RoundTrips, loaded_unless_fault}
use Rattle.format_traits.specs.declared.fault.ReadFault.TheVariants as read
use Rattle.stitch_text.specs.declared.list_line.ListLine.TheVariants as line
use Rattle.stitch_text.proofs.LabelLemmas.{label_from, label_is}
use Rattle.stitch_text.proofs.LineLemmas.{line_is}
use Rattle.stitch_text.proofs.ActContinuations.{Continues, Keeps, acts_written, block_text, not_over, over, thread_is}

-- a line that has an end, and what stands after it
next_some : {P : Type 0} (at : ℕ) (e d : DesignValue) (parts : List (List ℕ)) (f : List ℕ → List (List ℕ) → ParsedList)
    → with_next_line at e parts f ≡ over d
    → ((bytes : List ℕ) (rest : List (List ℕ)) → join_with_byte 10 parts ≡ bytes ++ 10 ∷ join_with_byte 10 rest
    → f bytes rest ≡ over d → P) → P
next_some at e d parts f h1 h2 = grind (arith, nat_tests, ints)

-- the third line, and a design that goes on from there
record FromBlock (label text : List ℕ) (d : DesignValue) : Type 0 where
  thread : ℕ
  rest : List ℕ
  small : thread < 256
  text_is : text ≡ codes "block " ++ (decimal thread ++ 10 ∷ rest)
  goes : Continues (begun_draft (with_label empty_design label) thread) rest d

block_written : (at : ℕ) (label : List ℕ) (parts : List (List ℕ)) (d : DesignValue)
    → parsed_from_block at (with_label empty_design label) parts ≡ over d → FromBlock label (join_with_byte 10 parts) d
block_written at label parts d says =
    let e = with_label empty_design label in
    next_some at e d parts (λ bytes rest. after_block_line at e bytes (parsed_thread (parsed_list_line bytes)) rest) says
    (λ bytes rest joined parsed. by_line bytes rest joined (parsed_list_line bytes) refl parsed) where
      keeps : (t : ℕ) → Keeps 0 (begun_draft (with_label empty_design label) t)
      keeps t = record {
        sound = record { place = refl; room = omega arith; count = omega arith; stops = omega arith; threads = omega arith };
        in_range = refl;
      }

      by_line : (bytes : List ℕ) (rest : List (List ℕ)) → join_with_byte 10 parts ≡ bytes ++ 10 ∷ join_with_byte 10 rest
          → (l : Option ListLine) → parsed_list_line bytes ≡ l
          → after_block_line at (with_label empty_design label) bytes (parsed_thread l) rest ≡ over d
          → FromBlock label (join_with_byte 10 parts) d
      by_line bytes rest joined None is parsed = not_over (with_label empty_design label) d (read.Control at) parsed
      by_line bytes rest joined (Some (line.Needle p float)) is parsed =
          not_over (with_label empty_design label) d (read.Control at) parsed
      by_line bytes rest joined (Some line.Far) is parsed = not_over (with_label empty_design label) d (read.Control at) parsed
      by_line bytes rest joined (Some line.Trim) is parsed = not_over (with_label empty_design label) d (read.Control at) parsed
      by_line bytes rest joined (Some line.End) is parsed = not_over (with_label empty_design label) d (read.Control at) parsed
      by_line bytes rest joined (Some (line.Block t)) is parsed =
          let text = line_is bytes (line.Block t) is in
          record {
            thread = t;
            rest = join_with_byte 10 rest;
            small = text.1;
            text_is = joined ∙ ap (λ (bytes : List ℕ). bytes ++ 10 ∷ join_with_byte 10 rest) text.0;
            goes = acts_written rest (at + length bytes + 1) (begun_draft (with_label empty_design label) t) d (keeps t) parsed;
          }

-- the second line, and the third
record FromLabel (text : List ℕ) (d : DesignValue) : Type 0 where
  label : List ℕ
  rest : List ℕ
  good : IsLabel label
  text_is : text ≡ label_line label ++ 10 ∷ rest
  block : FromBlock label rest d

label_written : (at : ℕ) (parts : List (List ℕ)) (d : DesignValue) → parsed_from_label at empty_design parts ≡ over d
    → FromLabel (join_with_byte 10 parts) d
label_written at parts d says =
    next_some at empty_design d parts (λ bytes rest. after_label_line at empty_design bytes (parsed_label bytes) rest) says
    (λ bytes rest joined parsed. by_line bytes rest joined (parsed_label bytes) refl parsed) where
      by_line : (bytes : List ℕ) (rest : List (List ℕ)) → join_with_byte 10 parts ≡ bytes ++ 10 ∷ join_with_byte 10 rest
          → (o : Option (List ℕ)) → parsed_label bytes ≡ o → after_label_line at empty_design bytes o rest ≡ over d
          → FromLabel (join_with_byte 10 parts) d
      by_line bytes rest joined None is parsed = not_over empty_design d (read.Control at) parsed
      by_line bytes rest joined (Some label) is parsed =
          let has = label_is bytes label is in
          record {
            label = label;
            rest = join_with_byte 10 rest;
            good = label_from label has.good;
            text_is = joined ∙ ap (λ (bytes : List ℕ). bytes ++ 10 ∷ join_with_byte 10 rest) has.is;
            block = block_written (at + length bytes + 1) label rest d parsed;
          }

-- the first line, and the second
record FromFirst (text : List ℕ) (d : DesignValue) : Type 0 where
  rest : List ℕ
  text_is : text ≡ signature_line ++ 10 ∷ rest
  label : FromLabel rest d

first_written : (parts : List (List ℕ)) (d : DesignValue)
    → with_next_line 0 empty_design parts (λ bytes rest. after_signature_line 0 empty_design (bytes_eq bytes signature_line) bytes rest)
    ≡ over d → FromFirst (join_with_byte 10 parts) d
first_written parts d says =
    next_some 0 empty_design d parts (λ bytes rest. after_signature_line 0 empty_design (bytes_eq bytes signature_line) bytes rest) says
    (λ bytes rest joined parsed. by_line bytes rest joined (bytes_eq bytes signature_line) refl parsed) where
      by_line : (bytes : List ℕ) (rest : List (List ℕ)) → join_with_byte 10 parts ≡ bytes ++ 10 ∷ join_with_byte 10 rest
          → (b : Bool) → bytes_eq bytes signature_line ≡ b → after_signature_line 0 empty_design b bytes rest ≡ over d
          → FromFirst (join_with_byte 10 parts) d
      by_line bytes rest joined false is parsed = not_over empty_design d (read.Signature 0) parsed
      by_line bytes rest joined true is parsed = record {
        rest = join_with_byte 10 rest;
        text_is = joined ∙ ap (λ (bytes : List ℕ). bytes ++ 10 ∷ join_with_byte 10 rest) ((bytes_eq-Decides bytes signature_line).0 is);
        label = label_written (0 + length bytes + 1) rest d parsed;
      }

-- a text whose reading ends is the text of its design
pub text_of : (text : List ℕ) (d : DesignValue) → parsed_text text ≡ over d → IsTextOf text d
text_of text d says =
    let first = subst (λ (bytes : List ℕ). FromFirst bytes d) (join_with_byte-slice_split 10 text)
    (first_written (parts_between 10 text) d says) in
    let second = first.label in
    let third = second.block in
    let c = third.goes in
    let acts = ap (acts_from 1 true false) c.commands_are in
    let told = thread_is d [] c.threads third.thread 0 c.threads_are refl in
    let lines : third.rest ≡ act_lines (thread_of d) 0 (acts_of d) =
    c.text_is 1 ∙ sym (ap (act_lines (thread_of d) 0) acts) in
    record {
      limits = record {
        label = subst (λ (label : List ℕ). IsLabel label) (sym c.label) second.good;
        threads = c.few;
        count = c.count;
        in_range = c.in_range;
      };
      written = ap (λ r. unless_refused r (list_of d)) (ap (first_refusal_from list_write_limits initial_encoder_state) acts ∙ c.none 1)
          ∙ ap (λ (bytes : List ℕ). Ok bytes) (sym (first.text_is
          ∙ ap (λ (bytes : List ℕ). signature_line ++ 10 ∷ bytes) (second.text_is
          ∙ ap (λ (label : List ℕ). label_line label ++ 10 ∷ second.rest) (sym c.label)
          ∙ ap (λ (bytes : List ℕ). label_line d.label ++ 10 ∷ bytes) (third.text_is
          ∙ ap (λ (bytes : List ℕ). bytes ++ 10 ∷ third.rest) (block_text third.thread (thread_of d 0) third.small told)
          ∙ ap (λ (bytes : List ℕ). list_block_line (thread_of d 0) ++ 10 ∷ bytes) lines))));
    }

-- a text that reads as a design is what that design is written as
pub reads_as_written : ReadsAsWritten
reads_as_written text loaded says = by_fault (parsed_text text).fault refl says where
  ok : Loaded → Result Loaded ReadFault
  ok one = Ok one

  err : ReadFault → Result Loaded ReadFault
  err f = Err f

  same_loaded : (one other : Loaded) → ok one ≡ ok other → one ≡ other
  same_loaded one other same = cc

  err_ok : (f : ReadFault) → err f ≡ ok loaded → ⊥
  err_ok f same = cc

  by_fault : (f : Option ReadFault) → (parsed_text text).fault ≡ f → loaded_unless_fault (parsed_text text).design f ≡ Ok loaded
      → IsTextOf text loaded.design
  by_fault (Some f) is says = absurd (err_ok f says)
  by_fault None is says =
      let same = same_loaded (record { design = (parsed_text text).design; ended = true }) loaded says in
      subst (λ (d : DesignValue). IsTextOf text d) (ap (λ (l : Loaded). l.design) same)
      (text_of text (parsed_text text).design (ap (λ (f : Option ReadFault). record { design = (parsed_text text).design; fault = f }) is))

-- and no other text reads as one
pub reads_where_written : KeepsAllLaws list_meaning → ReadsWhereWritten
reads_where_written laws text = (λ ok. from (list_reads text) refl ok, λ is. to is.0 is.1) where
  from : (r : Result Loaded ReadFault) → list_reads text ≡ r → IsOk r → (d : DesignValue) × IsTextOf text d
  from (Ok loaded) is ok = (loaded.design, reads_as_written text loaded is)
  from (Err f) is ok = absurd (let no : ⊥ = cc in no)

  is_ok_of : (P : Loaded → Type 0) (r : Result Loaded ReadFault) → IsOkAnd r P → IsOk r
  is_ok_of P (Ok loaded) both = refl
  is_ok_of P (Err f) both = absurd both

  to : (d : DesignValue) → IsTextOf text d → IsOk (list_reads text)
  to d is =
      let kept = laws d is.limits in
      is_ok_of (λ loaded. HasSameActs d loaded) (list_reads text)
      (subst (λ (r : Result (List ℕ) WriteFault). IfOk r (λ bytes. RoundTrips list_meaning d bytes)) is.written kept.again)
