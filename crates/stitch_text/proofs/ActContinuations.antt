-- The lines of acts that are read are the lines of a design that goes on from what was read before.
use Rattle.std.proofs.Common.{◌≡◌, ℕ, ◌+◌, ◌<◌, ◌≤◌, ◌%◌, Bool, true, false, IsTrue, List, [], ◌∷◌, ◌++◌, Option, Some, None, Err, codes, decimal, length, length-append, nat_lt, slice_get, unwrap_or, if◌then◌else◌, refl, ap, sym, ◌∙◌, subst, append-nil, append_assoc, arith}
use Rattle.stitch_text.proofs.Names.{ints, and_from, nat_tests, list_all-append, join_with_byte, list_all, Act, Command, MAX_COMMANDS, NEEDLE_LIMIT, is_act_in_range, leaves_thread_loose, needle_position_after, acts_from, numbered, DesignValue, thread_of, is_point_within, ReadFault, EncoderState, refusal_before_room, is_above_max, refusal_of_act, first_refusal_from, refusal_if, encoder_state_after, stops_in, ListDraft, ListLine, LIMIT, parsed_list_line, fault_of_act, list_commands_of, draft_with_checked_act, unless_fault, with_act, with_block_thread, ParsedList, parsed_acts, ended_list, continued_with, parsed_end_or_line, refused_list, act_line, act_lines, list_block_line, list_write_limits, is_told, not_refused, or_else_none, or_else_both}
use Rattle.design_model.specs.declared.act.Act.TheVariants as act
use Rattle.design_model.specs.Commands.{is_command_in_range}
use Rattle.format_traits.specs.declared.fault.ReadFault.TheVariants as read
use Rattle.format_traits.specs.declared.fault.WriteFault.TheVariants as fault
use Rattle.format_traits.specs.Rooms.{room_of_act}
use Rattle.stitch_text.specs.declared.list_line.ListLine.TheVariants as line
use Rattle.stitch_text.specs.Drafts.{IsSoundDraftLacking}
use Rattle.stitch_text.proofs.ActLemmas.{no_refusal}
use Rattle.stitch_text.proofs.LineLemmas.{line_is}

-- an act has no more commands than room
few_commands : (s : EncoderState) (a : Act) → IsTrue (is_told s.loose a) → length (list_commands_of a) ≤ room_of_act LIMIT s.loose s.place a
few_commands s a h1 = grind (arith, nat_tests, ints)

-- what holds of a draft and of its commands
pub record Keeps (bare : ℕ) (draft : ListDraft) : Type 0 where
  pub sound : IsSoundDraftLacking bare draft
  pub in_range : IsTrue (list_all is_command_in_range draft.design.commands)

-- an act that isn't refused keeps all limits
act_keeps : (draft : ListDraft) (a : Act) → Keeps 0 draft → IsTrue (is_act_in_range a) → IsTrue (is_told draft.state.loose a)
    → refusal_of_act list_write_limits draft.state (numbered 0 a) ≡ None → Keeps (stops_in a) (with_act draft a)
act_keeps draft a keeps within told none =
    let s = draft.state in
    let after = encoder_state_after LIMIT s a in
    let both = or_else_none (refusal_before_room list_write_limits s a 0) (refusal_if (nat_lt MAX_COMMANDS after.room) (fault.TooLong 0))
    none in
    let full = not_refused (nat_lt MAX_COMMANDS after.room) (fault.TooLong 0) both.1 in
    let few = few_commands s a told in
    let size = length-append draft.design.commands (list_commands_of a) in
    record {
      sound = record {
        place = place_is a within;
        room = grind (arith, nat_tests, full);
        count = omega (arith, few, size, keeps.sound.count);
        stops = by_act a both.0;
        threads = omega (arith, keeps.sound.threads);
      };
      in_range = list_all-append is_command_in_range draft.design.commands (list_commands_of a)
          ∙ and_from (list_all is_command_in_range draft.design.commands) (list_all is_command_in_range (list_commands_of a)) keeps.in_range
          (grind (arith, nat_tests));
    } where
      place_is : (b : Act) → IsTrue (is_act_in_range b) → IsTrue (is_point_within NEEDLE_LIMIT (needle_position_after draft.state.place b))
      place_is (act.Needle p float) within = within
      place_is act.Trim within = keeps.sound.place
      place_is act.Stop within = keeps.sound.place

      by_act : (b : Act) → refusal_before_room list_write_limits draft.state b 0 ≡ None → draft.state.stops + stops_in b ≤ 254
      by_act (act.Needle p float) none = omega (arith, keeps.sound.stops)
      by_act act.Trim none = omega (arith, keeps.sound.stops)
      by_act act.Stop none =
          grind (arith, nat_tests, not_refused (is_above_max list_write_limits.stops (draft.state.stops + 1)) (fault.TooManyStops 0) none)

-- the number of the act that is computed from an act's commands
abbrev number_at : ℕ → Act → ℕ
number_at n (act.Needle p true) = n + 1
number_at n other = n

act_first : (a : Act) (n : ℕ) (loose : Bool) (more : List Command) → IsTrue (is_told loose a)
    → acts_from n loose false (list_commands_of a ++ more)
    ≡ numbered (number_at n a) a ∷ acts_from (number_at n a + 1) (leaves_thread_loose a) false more
act_first a n loose more h1 = grind (arith, nat_tests, ints)

-- reading is over without a refusal
abbrev pub over : DesignValue → ParsedList
over d = record { design = d; fault = None }

-- a design that goes on from a draft, and the text that does
pub record Continues (draft : ListDraft) (text : List ℕ) (d : DesignValue) : Type 0 where
  pub commands : List Command
  pub threads : List ℕ
  pub label : d.label ≡ draft.design.label
  pub commands_are : d.commands ≡ draft.design.commands ++ commands
  pub threads_are : d.threads ≡ draft.design.threads ++ threads
  pub text_is : (n : ℕ) → text ≡ act_lines (thread_of d) draft.state.stops (acts_from n draft.state.loose false commands)
  pub none : (n : ℕ) → first_refusal_from list_write_limits draft.state (acts_from n draft.state.loose false commands) ≡ None
  pub count : length d.commands ≤ MAX_COMMANDS
  pub few : length d.threads ≤ 255
  pub in_range : IsTrue (list_all is_command_in_range d.commands)

-- the last line
end_written : (at : ℕ) (draft : ListDraft) (bytes : List ℕ) (rest : List (List ℕ)) (d : DesignValue) → Keeps 0 draft
    → bytes ≡ codes "end" → ended_list at draft.design rest ≡ over d → Continues draft (bytes ++ 10 ∷ join_with_byte 10 rest) d
end_written at draft bytes rest d keeps is says = by_rest rest says where
  none_some : (f : ReadFault) → Some f ≡ None → ⊥
  none_some f same = cc

  at_end : d ≡ draft.design → Continues draft (bytes ++ 10 ∷ []) d
  at_end same =
      let count = keeps.sound.count in
      let room = keeps.sound.room in
      let threads = keeps.sound.threads in
      let stops = keeps.sound.stops in
      subst (λ d. Continues draft (bytes ++ 10 ∷ []) d) (sym same) (record {
        commands = [];
        threads = [];
        label = refl;
        commands_are = sym (append-nil draft.design.commands);
        threads_are = sym (append-nil draft.design.threads);
        text_is = λ n. ap (λ (bytes : List ℕ). bytes ++ 10 ∷ []) is;
        none = λ n. refl;
        count = omega (arith, count, room);
        few = omega (arith, threads, stops);
        in_range = keeps.in_range;
      })

  by_rest : (rest : List (List ℕ)) → ended_list at draft.design rest ≡ over d
      → Continues draft (bytes ++ 10 ∷ join_with_byte 10 rest) d
  by_rest [] says = absurd (none_some (read.Control at) (ap (λ (s : ParsedList). s.fault) says))
  by_rest ([] ∷ []) says = at_end (sym (ap (λ (s : ParsedList). s.design) says))
  by_rest ([] ∷ part ∷ parts) says = absurd (none_some (read.Control at) (ap (λ (s : ParsedList). s.fault) says))
  by_rest ((b ∷ part) ∷ parts) says = absurd (none_some (read.Control at) (ap (λ (s : ParsedList). s.fault) says))

-- a refusal isn't the end
pub not_over : {P : Type 0} (e d : DesignValue) (f : ReadFault) → refused_list e f ≡ over d → P
not_over e d f h1 = grind (arith, nat_tests, ints)

-- the line of an act, and the lines that go on from there
continues_act : (draft : ListDraft) (e : DesignValue) (a : Act) (extra bytes rest : List ℕ) (d : DesignValue) → e.label ≡ draft.design.label
    → e.threads ≡ draft.design.threads ++ extra → e.commands ≡ draft.design.commands ++ list_commands_of a
    → IsTrue (is_told draft.state.loose a) → ((n : ℕ) → refusal_of_act list_write_limits draft.state (numbered n a) ≡ None)
    → bytes ≡ act_line (thread_of d) draft.state.stops a
    → Continues (record { design = e; state = encoder_state_after LIMIT draft.state a }) rest d → Continues draft (bytes ++ 10 ∷ rest) d
continues_act draft e a extra bytes rest d label threads commands told free is c =
    let s = draft.state in
    record {
      commands = list_commands_of a ++ c.commands;
      threads = extra ++ c.threads;
      label = c.label ∙ label;
      commands_are = c.commands_are ∙ ap (λ (l : List Command). l ++ c.commands) commands
          ∙ append_assoc draft.design.commands (list_commands_of a) c.commands;
      threads_are = c.threads_are ∙ ap (λ (l : List ℕ). l ++ c.threads) threads
          ∙ append_assoc draft.design.threads extra c.threads;
      text_is = λ n. ap (λ (bytes : List ℕ). bytes ++ 10 ∷ rest) is
          ∙ ap (λ (rest : List ℕ). act_line (thread_of d) s.stops a ++ 10 ∷ rest) (c.text_is (number_at n a + 1))
          ∙ sym (ap (act_lines (thread_of d) s.stops) (act_first a n s.loose c.commands told));
      none = λ n. ap (first_refusal_from list_write_limits s) (act_first a n s.loose c.commands told)
          ∙ or_else_both (refusal_of_act list_write_limits s (numbered (number_at n a) a))
          (first_refusal_from list_write_limits (encoder_state_after LIMIT s a)
          (acts_from (number_at n a + 1) (leaves_thread_loose a) false c.commands))
          (free (number_at n a)) (c.none (number_at n a + 1));
      count = c.count;
      few = c.few;
      in_range = c.in_range;
    }

-- what a draft goes on with, after a line
abbrev GoesOn : ℕ → List (List ℕ) → DesignValue → Type 0
GoesOn at rest d = (new : ListDraft) → Keeps 0 new → parsed_acts at new rest ≡ over d → Continues new (join_with_byte 10 rest) d

-- an act whose line has no thread
act_written : (at behind : ℕ) (draft : ListDraft) (a : Act) (bytes : List ℕ) (rest : List (List ℕ)) (d : DesignValue)
    → Keeps 0 draft → IsTrue (is_act_in_range a) → stops_in a ≡ 0 → bytes ≡ act_line (thread_of d) draft.state.stops a
    → GoesOn behind rest d → continued_with draft (draft_with_checked_act at draft a) (λ new. parsed_acts behind new rest) ≡ over d
    → Continues draft (bytes ++ 10 ∷ join_with_byte 10 rest) d
act_written at behind draft a bytes rest d keeps within stays is again says = by_fault (fault_of_act at draft.state a) refl says where
  by_fault : (f : Option ReadFault) → fault_of_act at draft.state a ≡ f
      → continued_with draft (unless_fault f (with_act draft a)) (λ new. parsed_acts behind new rest) ≡ over d
      → Continues draft (bytes ++ 10 ∷ join_with_byte 10 rest) d
  by_fault (Some f) none says = not_over draft.design d f says
  by_fault None none says =
      let facts = no_refusal at 0 draft.state a none in
      let new = subst (λ n. Keeps n (with_act draft a)) stays (act_keeps draft a keeps within facts.0 facts.1) in
      continues_act draft (with_act draft a).design a [] bytes (join_with_byte 10 rest) d refl (sym (append-nil draft.design.threads))
      refl facts.0 (λ n. (no_refusal at n draft.state a none).1) is (again (with_act draft a) new says)

-- the thread of a block
slice_get_at : (xs ys : List ℕ) (t : ℕ) → slice_get (xs ++ t ∷ ys) (length xs) ≡ Some t
slice_get_at [] ys t = refl
slice_get_at (x ∷ xs) ys t = slice_get_at xs ys t

pub thread_is : (d : DesignValue) (xs ys : List ℕ) (t block : ℕ) → d.threads ≡ xs ++ t ∷ ys → length xs ≡ block → thread_of d block ≡ t
thread_is d xs ys t block are size =
    ap (λ (ts : List ℕ). unwrap_or (slice_get ts block) (1 + block % 64)) are
    ∙ ap (λ k. unwrap_or (slice_get (xs ++ t ∷ ys) k) (1 + block % 64)) (sym size)
    ∙ ap (λ o. unwrap_or o (1 + block % 64)) (slice_get_at xs ys t)

pub block_text : (t u : ℕ) → t < 256 → u ≡ t → codes "block " ++ decimal t ≡ list_block_line u
block_text t u h1 h2 = grind (arith, nat_tests, ints)

-- a stop, whose line has a thread
stop_written : (at behind : ℕ) (draft : ListDraft) (t : ℕ) (bytes : List ℕ) (rest : List (List ℕ)) (d : DesignValue) → Keeps 0 draft
    → bytes ≡ codes "block " ++ decimal t → t < 256 → GoesOn behind rest d
    → continued_with draft (unless_fault (fault_of_act at draft.state act.Stop) (with_block_thread t (with_act draft act.Stop)))
    (λ new. parsed_acts behind new rest) ≡ over d → Continues draft (bytes ++ 10 ∷ join_with_byte 10 rest) d
stop_written at behind draft t bytes rest d keeps is small again says = by_fault (fault_of_act at draft.state act.Stop) refl says where
  by_fault : (f : Option ReadFault) → fault_of_act at draft.state act.Stop ≡ f
      → continued_with draft (unless_fault f (with_block_thread t (with_act draft act.Stop))) (λ new. parsed_acts behind new rest) ≡ over d
      → Continues draft (bytes ++ 10 ∷ join_with_byte 10 rest) d
  by_fault (Some f) none says = not_over draft.design d f says
  by_fault None none says =
      let facts = no_refusal at 0 draft.state act.Stop none in
      let one = act_keeps draft act.Stop keeps refl facts.0 facts.1 in
      let size = length-append draft.design.threads (t ∷ []) in
      let threads = one.sound.threads in
      let new : Keeps 0 (with_block_thread t (with_act draft act.Stop)) = record {
        sound = record {
          place = one.sound.place;
          room = one.sound.room;
          count = one.sound.count;
          stops = one.sound.stops;
          threads = omega (arith, size, threads);
        };
        in_range = one.in_range;
      } in
      let c = again (with_block_thread t (with_act draft act.Stop)) new says in
      let before = keeps.sound.threads in
      let told = thread_is d draft.design.threads c.threads t (draft.state.stops + 1)
      (c.threads_are ∙ append_assoc draft.design.threads (t ∷ []) c.threads) (omega (arith, before)) in
      continues_act draft (with_block_thread t (with_act draft act.Stop)).design act.Stop (t ∷ []) bytes (join_with_byte 10 rest) d refl
      refl
      refl facts.0 (λ n. (no_refusal at n draft.state act.Stop none).1)
      (is ∙ block_text t (thread_of d (draft.state.stops + 1)) small told) c

-- any line
line_written : (at behind : ℕ) (draft : ListDraft) (bytes : List ℕ) (rest : List (List ℕ)) (d : DesignValue) (l : Option ListLine)
    → parsed_list_line bytes ≡ l → Keeps 0 draft → GoesOn behind rest d
    → parsed_end_or_line at draft l (ended_list behind draft.design rest) (λ new. parsed_acts behind new rest) ≡ over d
    → Continues draft (bytes ++ 10 ∷ join_with_byte 10 rest) d
line_written at behind draft bytes rest d None is keeps again says = not_over draft.design d (read.Control at) says
line_written at behind draft bytes rest d (Some line.Far) is keeps again says = not_over draft.design d (read.Range at) says
line_written at behind draft bytes rest d (Some line.End) is keeps again says =
    end_written behind draft bytes rest d keeps (line_is bytes line.End is) says
line_written at behind draft bytes rest d (Some line.Trim) is keeps again says =
    act_written at behind draft act.Trim bytes rest d keeps refl refl (line_is bytes line.Trim is) again says
line_written at behind draft bytes rest d (Some (line.Block t)) is keeps again says =
    let text = line_is bytes (line.Block t) is in
    stop_written at behind draft t bytes rest d keeps text.0 text.1 again says
line_written at behind draft bytes rest d (Some (line.Needle p float)) is keeps again says =
    by_range (is_point_within NEEDLE_LIMIT p) refl says where
      by_range : (b : Bool) → is_point_within NEEDLE_LIMIT p ≡ b
          → continued_with draft (if b then draft_with_checked_act at draft (act.Needle p float) else Err (read.Range at))
          (λ new. parsed_acts behind new rest) ≡ over d
          → Continues draft (bytes ++ 10 ∷ join_with_byte 10 rest) d
      by_range false out says = not_over draft.design d (read.Range at) says
      by_range true within says =
          act_written at behind draft (act.Needle p float) bytes rest d keeps within refl
          (line_is bytes (line.Needle p float) is) again says

-- the lines after the third one
pub acts_written : (parts : List (List ℕ)) (at : ℕ) (draft : ListDraft) (d : DesignValue) → Keeps 0 draft
    → parsed_acts at draft parts ≡ over d → Continues draft (join_with_byte 10 parts) d
acts_written [] at draft d keeps says = not_over draft.design d (read.Short at) says
acts_written (rest ∷ []) at draft d keeps says = not_over draft.design d (read.Short (at + length rest)) says
acts_written (bytes ∷ next ∷ more) at draft d keeps says =
    line_written at (at + length bytes + 1) draft bytes (next ∷ more) d (parsed_list_line bytes) refl keeps
    (λ new keeps says. acts_written (next ∷ more) (at + length bytes + 1) new d keeps says) says
