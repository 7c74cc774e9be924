-- What is written reads back.
use Rattle.std.proofs.Common.{◌≡◌, ℕ, ◌+◌, ◌≤◌, ◌%◌, ◌==◌, Bool, true, false, not, ◌&&◌, IsTrue, IsOkAnd, List, [], ◌∷◌, ◌++◌, Some, None, Result, Ok, Err, length, nat_le, if◌then◌else◌, refl, ap, sym, ◌∙◌, subst, append-nil, append_assoc, arith}
use Rattle.stitch_text.proofs.Names.{ints, and_from, and_parts, nat_tests, list_all-append, slice_split_at, list_all, Act, NumberedAct, Command, is_act_in_range, leaves_thread_loose, acts_along, acts_of, acts_without_numbers, DesignValue, KeepsLimits, empty_design, thread_of, with_label, is_point_within, origin, ReadFault, Loaded, AcceptedIsWithinLimits, HasSameActs, initial_encoder_state, first_refusal, is_above_max, refusal_of_act, first_refusal_from, encoder_state_after, stops_in, ListDraft, ListLine, LIMIT, list_meaning, fault_of_act, list_commands_of, draft_after_line, draft_with_checked_act, unless_fault, with_act, with_block_thread, ParsedList, parsed_acts, begun_draft, loaded_of_parsed, stitch_moves_of, parsed_text, parsed_thread, act_line, act_lines, list_block_line, signature_line, label_line, list_of, list_write_limits, has_trailing_space, is_valid_label, is_printable, parts_between, are_told, is_told, or_else_none, is_line_byte, IsCodec, told}
use Rattle.design_model.specs.declared.act.Act.TheVariants as act
use Rattle.format_traits.specs.declared.fault.ReadFault.TheVariants as read
use Rattle.stitch_text.specs.declared.list_line.ListLine.TheVariants as line
use Rattle.stitch_text.proofs.ActLemmas.{acts_again, commands_along, moves_within}
use Rattle.stitch_text.proofs.LabelLemmas.{label_to, label_yes}
use Rattle.stitch_text.proofs.LineLemmas.{IsLine, Lacks, block_is, lacks_from, needle_is, trim_is}
use Rattle.stitch_text.proofs.ReadingLemmas.{acts_judged, first_is, label_is, block_is as first_block_is}

-- a line before others
pub line_before : (bytes text : List ℕ) → Lacks bytes → parts_between 10 (bytes ++ 10 ∷ text) ≡ bytes ∷ parts_between 10 text
line_before bytes text lacks = slice_split_at (λ (b : ℕ). b == 10) bytes 10 text lacks refl

-- the parsed line of an act, by the threads of the blocks
abbrev pub said_by : (ℕ → ℕ) → ℕ → Act → ListLine
said_by thread stops (act.Needle p float) = line.Needle p float
said_by thread stops act.Trim = line.Trim
said_by thread stops act.Stop = line.Block (thread (stops + 1) % 256)

-- the threads in the lines of an act, and of acts
abbrev pub threads_in : (ℕ → ℕ) → ℕ → Act → List ℕ
threads_in thread stops (act.Needle p float) = []
threads_in thread stops act.Trim = []
threads_in thread stops act.Stop = (thread (stops + 1) % 256) ∷ []

abbrev pub threads_along : (ℕ → ℕ) → ℕ → List NumberedAct → List ℕ
threads_along thread stops [] = []
threads_along thread stops (a ∷ rest) = threads_in thread stops a.act
    ++ threads_along thread (stops + stops_in a.act) rest

-- the draft with one act more, and with the thread in its line
abbrev pub drafted : (ℕ → ℕ) → ListDraft → Act → ListDraft
drafted thread draft a = record {
  design = record {
    label = draft.design.label;
    threads = draft.design.threads ++ threads_in thread draft.state.stops a;
    commands = draft.design.commands ++ list_commands_of a;
  };
  state = encoder_state_after LIMIT draft.state a;
}

-- the parsed list of a design's label, threads and acts
abbrev pub said_all : List ℕ → List ℕ → List Command → ParsedList
said_all label threads commands = record {
  design = record { label = label; threads = threads; commands = commands };
  fault = None;
}

same_said : (label threads threads' : List ℕ) (commands commands' : List Command) → threads ≡ threads' → commands ≡ commands'
    → said_all label threads commands ≡ said_all label threads' commands'
same_said label threads threads' commands commands' h1 h2 = grind (arith, nat_tests, ints)

-- a draft with one act more, by its threads
abbrev taken_with : ListDraft → Act → List ℕ → Result ListDraft ReadFault
taken_with draft a threads = Ok (record {
  design = record {
    label = draft.design.label;
    threads = threads;
    commands = draft.design.commands ++ list_commands_of a;
  };
  state = encoder_state_after LIMIT draft.state a;
})

same_taken : (draft : ListDraft) (a : Act) → taken_with draft a draft.design.threads ≡ taken_with draft a (draft.design.threads ++ [])
same_taken draft a = ap (λ (t : List ℕ). taken_with draft a t) (sym (append-nil draft.design.threads))

-- the line of an act is parsed as the act
act_is : (thread : ℕ → ℕ) (stops : ℕ) (a : Act) → IsTrue (is_act_in_range a) → IsLine (act_line thread stops a) (said_by thread stops a)
act_is thread stops (act.Needle p float) within = needle_is float p within
act_is thread stops act.Trim within = trim_is
act_is thread stops act.Stop within = block_is (thread (stops + 1) % 256) (grind (arith, nat_tests))

-- and is taken
act_judged : (thread : ℕ → ℕ) (at : ℕ) (draft : ListDraft) (a : Act) → IsTrue (is_act_in_range a) → fault_of_act at draft.state a ≡ None
    → draft_after_line at draft (Some (said_by thread draft.state.stops a)) ≡ Ok (drafted thread draft a)
act_judged thread at draft (act.Needle p float) within none =
    ap (λ (b : Bool). if b then draft_with_checked_act at draft (act.Needle p float) else Err (read.Range at)) within
    ∙ ap (λ f. unless_fault f (with_act draft (act.Needle p float))) none
    ∙ same_taken draft (act.Needle p float)
act_judged thread at draft act.Trim within none =
    ap (λ f. unless_fault f (with_act draft act.Trim)) none ∙ same_taken draft act.Trim
act_judged thread at draft act.Stop within none =
    ap (λ f. unless_fault f (with_block_thread (thread (draft.state.stops + 1) % 256) (with_act draft act.Stop))) none

-- the lines of acts are read
pub acts_read : (thread : ℕ → ℕ) (acts : List NumberedAct) (draft : ListDraft) (at : ℕ) → IsTrue (are_told draft.state.loose acts)
    → IsTrue (list_all (λ a. is_act_in_range a.act) acts) → first_refusal_from list_write_limits draft.state acts ≡ None
    → parsed_acts at draft (parts_between 10 (act_lines thread draft.state.stops acts))
    ≡ said_all draft.design.label (draft.design.threads ++ threads_along thread draft.state.stops acts)
    (draft.design.commands ++ commands_along acts)
acts_read thread [] draft at told in_range none =
    same_said draft.design.label draft.design.threads (draft.design.threads ++ []) draft.design.commands
    (draft.design.commands ++ []) (sym (append-nil draft.design.threads)) (sym (append-nil draft.design.commands))
acts_read thread (a ∷ rest) draft at told in_range none =
    let s = draft.state in
    let after = encoder_state_after LIMIT s a.act in
    let both = and_parts (is_told s.loose a.act) (are_told (leaves_thread_loose a.act) rest) told in
    let ranges = and_parts (is_act_in_range a.act) (list_all (λ a. is_act_in_range a.act) rest) in_range in
    let first = or_else_none (refusal_of_act list_write_limits s a) (first_refusal_from list_write_limits after rest) none in
    let one = act_is thread s.stops a.act ranges.0 in
    let new = drafted thread draft a.act in
    let line = act_line thread s.stops a.act in
    let text = act_lines thread s.stops (a ∷ rest) in
    let behind = act_lines thread after.stops rest in
    sym (acts_judged at draft text line behind (Some (said_by thread s.stops a.act)) (Ok new) (parsed_acts at draft (parts_between 10 text))
    refl (line_before line behind one.kept) (sym one.parsed) (grind (arith, nat_tests))
    (act_judged thread at draft a.act ranges.0 (grind (arith, nat_tests, both.0, first.0))))
    ∙ acts_read thread rest new (at + length line + 1) both.1 ranges.1 first.1
    ∙ same_said draft.design.label _ _ _ _
    (append_assoc draft.design.threads (threads_in thread s.stops a.act) (threads_along thread after.stops rest))
    (append_assoc draft.design.commands (list_commands_of a.act) (commands_along rest))

-- the line of a label is one
label_kept : (label : List ℕ) → list_all is_printable label ≡ true → list_all is_line_byte label ≡ true
label_kept [] printable = refl
label_kept (b ∷ label) printable =
    let both = and_parts (is_printable b) (list_all is_printable label) printable in
    and_from (is_line_byte b) (list_all is_line_byte label) (grind (arith, nat_tests, both.0)) (label_kept label both.1)

label_lacks : (label : List ℕ) → is_valid_label label ≡ true → Lacks (label_line label)
label_lacks label is =
    let outer = and_parts (nat_le (length label) 16) (list_all is_printable label && not (has_trailing_space label)) is in
    let inner = and_parts (list_all is_printable label) (not (has_trailing_space label)) outer.1 in
    lacks_from (label_line label) (list_all-append is_line_byte label (93 ∷ [])
    ∙ and_from (list_all is_line_byte label) true (label_kept label inner.0) refl)

-- the threads in the list of a design
abbrev pub threads_told : DesignValue → List ℕ
threads_told d = (thread_of d 0 % 256) ∷ threads_along (thread_of d) 0 (acts_of d)

-- the whole list
pub list_said : AcceptedIsWithinLimits → (d : DesignValue) → KeepsLimits d → first_refusal list_write_limits (acts_of d) ≡ None
    → parsed_text (list_of d) ≡ said_all d.label (threads_told d) (commands_along (acts_of d))
list_said small d limits none =
    let thread = thread_of d 0 % 256 in
    let lines = act_lines (thread_of d) 0 (acts_of d) in
    let third = list_block_line (thread_of d 0) ++ 10 ∷ lines in
    let second = label_line d.label ++ 10 ∷ third in
    let good = label_to d.label limits.label in
    let block = block_is thread (grind (arith, nat_tests)) in
    let head : Lacks signature_line = lacks_from signature_line refl in
    let named = with_label empty_design d.label in
    let at = length signature_line + 1 in
    let later = at + length (label_line d.label) + 1 in
    first_is 0 empty_design (list_of d) signature_line second true (line_before signature_line second head) refl
    ∙ label_is at empty_design second (label_line d.label) third (Some d.label)
    (line_before (label_line d.label) third (label_lacks d.label good))
    (label_yes (label_line d.label) d.label refl good)
    ∙ first_block_is later named third (list_block_line (thread_of d 0)) lines (Some thread)
    (line_before (list_block_line (thread_of d 0)) lines block.kept)
    (sym (ap parsed_thread block.parsed))
    ∙ acts_read (thread_of d) (acts_of d) (begun_draft named thread) (later + length (list_block_line (thread_of d 0)) + 1)
    (told 1 true false d.commands) (small list_write_limits d limits none).in_range none

-- the acts of what is read
pub again_acts : (d : DesignValue) → acts_without_numbers (acts_along (commands_along (acts_of d))) ≡ acts_without_numbers (acts_of d)
again_acts d = acts_again (acts_of d) 1 true (told 1 true false d.commands)

-- the list is a codec
stops_few : (count : ℕ) → count ≤ 254 → is_above_max list_write_limits.stops count ≡ false
stops_few count few = grind (arith, nat_tests, few)

pub list_is_codec : AcceptedIsWithinLimits → IsCodec list_meaning list_write_limits list_of
list_is_codec small = record {
  limit = refl;
  stops = stops_few;
  writes = λ d. refl;
  again = λ d limits none.
      let loaded : Loaded = record {
        design = record { label = d.label; threads = threads_told d; commands = commands_along (acts_of d) };
        ended = true;
      } in
      let again : HasSameActs d loaded = record { acts = again_acts d; ended = refl } in
      subst (λ parsed. IsOkAnd (loaded_of_parsed parsed) (λ loaded. HasSameActs d loaded)) (sym (list_said small d limits none)) again;
  within = λ d limits none.
      subst (λ (parsed : ParsedList). IsTrue (list_all (λ move. is_point_within LIMIT move)
      (stitch_moves_of true origin (acts_without_numbers (acts_of parsed.design)))))
      (sym (list_said small d limits none))
      (subst (λ acts. IsTrue (list_all (λ move. is_point_within LIMIT move) (stitch_moves_of true origin acts))) (sym (again_acts d))
      (moves_within (acts_of d) initial_encoder_state none));
}
