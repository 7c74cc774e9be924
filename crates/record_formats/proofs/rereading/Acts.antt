-- How reading goes on over the records of one act, and over those of all acts.
use Rattle.std.proofs.Common.{◌≡◌, ◌≢◌, ℕ, zero, suc, ◌+◌, ◌-◌, ◌*◌, ◌<◌, ◌≤◌, max, Bool, true, false, not, ◌&&◌, IsTrue, List, [], ◌∷◌, ◌++◌, length, Option, Some, None, option_map, inl, inr, nat_lt, ◌==◌, if◌then◌else◌, refl, ap, sym, ◌∙◌, subst, arith}
use Rattle.std.proofs.lemmas.List.{append_assoc}
use Rattle.record_formats.proofs.Names.{nat_tests, ints, and_parts, eqb-true, append-nil, concat, Act, NumberedAct, MAX_COMMANDS, Point, NEEDLE_LIMIT, acts_without_numbers, is_point_within, origin, move_between, move_size, WriteLimits, EncoderState, hops_of, position_after_move, Records, over, next, encoder_state_after, EncodedEvents, DecodesEncoding, RecordEncoding, is_at_max, hop_records, stitched_hop_records, records_of_act, records_of_acts_from, within_from, leb-true, ltb-false, eqb-false, le_refl, le_trans, mul-le-mul, is_above_max, refusal_if, refusal_of_needle, refusal_before_room, refusal_of_act, first_refusal_from, AllowsTwoJumps, IsPastTrimmedJump, float_records, needle_records, are_in_range, are_told, is_told, not_refused, or_else_none}
use Rattle.design_model.specs.declared.act.Act.TheVariants as act
use Rattle.design_model.specs.ActPositions.{needle_position_after, leaves_thread_loose, is_act_in_range}
use Rattle.record_formats.specs.declared.event.Event.TheVariants as event
use Rattle.format_traits.specs.declared.fault.WriteFault.TheVariants as fault
use Rattle.format_traits.specs.Rooms.{room_of_loose, room_of_needle, room_of_act}
use Rattle.record_formats.proofs.PointLemmas.{within-size, position_after_move-none}
use Rattle.record_formats.proofs.rereading.Parts.{Lies, lies_from, hops_enough, no_hops, moved-between}
use Rattle.record_formats.proofs.rereading.Runs.{Spares, trims_in, trims_over, trims_none, trims_few, goes_as, goes_hops, goes_last_stitched}
use Rattle.record_formats.proofs.rereading.Steps.{GoesOn, goes_end, goes_stitch, goes_stop}
use Rattle.record_formats.proofs.rereading.Trims.{goes_trimmed}
use Rattle.record_formats.proofs.WriterLemmas.{concat-append}

-- how a reader stands between acts: after a needle no jump came, after others the run is over or long
abbrev pub Between : Option ℕ → Bool → ℕ → Bool → Type 0
Between most true run jumped = IsPastTrimmedJump most run
Between most false run jumped = (run ≡ 0) × (jumped ≡ false)

range_after : (place : Point) (a : Act) → IsTrue (is_point_within NEEDLE_LIMIT place) → IsTrue (is_act_in_range a)
    → IsTrue (is_point_within NEEDLE_LIMIT (needle_position_after place a))
range_after place a h1 h2 = grind (arith, nat_tests, ints)

concat_both : (xs ys : List (List ℕ)) (rest : List ℕ) → concat (xs ++ ys) ++ rest ≡ concat xs ++ (concat ys ++ rest)
concat_both xs ys rest = grind (arith, nat_tests, append_assoc, concat-append)

-- the commands of a loose needle's jumps, with the trim that they may be taken for
loose_enough : (most : Option ℕ) (jumps run : ℕ) → AllowsTwoJumps most → IsPastTrimmedJump most run
    → jumps + trims_in most run jumps + 1 ≤ room_of_loose jumps
loose_enough None jumps run late past = grind (arith, nat_tests, trims_in, trims_none)
loose_enough (Some most) jumps run late (inl none) = grind (arith, nat_tests, trims_in, leb-true, trims_none, trims_few)
loose_enough (Some most) jumps run late (inr long) = grind (arith, nat_tests, trims_in, trims_over)

no_float : (jumped : Bool) → (jumped && not true) ≡ false
no_float jumped = grind (arith, nat_tests, ints)

-- where the hops of a move are few, one jump more than none is so too
passed_once : (most hop : Option ℕ) (h : ℕ) → hop ≡ option_map suc most → is_above_max hop h ≡ false → is_above_max hop (max 1 h) ≡ false
passed_once most hop h h1 h2 = grind (arith, nat_tests, ints)

-- a run that is over holds no jump that is taken for a trim
pub broken : (most : Option ℕ) → IsPastTrimmedJump most 0
broken most = grind (arith, nat_tests, ints)

-- a standing of those parts
abbrev stands : Bool → Point → ℕ → ℕ → EncoderState
stands loose place stops room = record { loose = loose; place = place; stops = stops; room = room }

-- what a reader that decodes each encoded record makes of the records of acts
module _ (read : ℕ → ℕ → List ℕ → Records) (encoding : RecordEncoding) (write_limits : WriteLimits) (taken : EncodedEvents)
    (b : DecodesEncoding read encoding write_limits taken) where
  -- a loose needle
  goes_loose : (h at count run : ℕ) (place p : Point) (room : ℕ) (rest : List ℕ) (jumped : Bool) (acts : List Act)
      → hops_of write_limits.limit (move_between place p) ≡ h → IsPastTrimmedJump taken.max_jumps run
      → IsTrue (is_point_within NEEDLE_LIMIT place) → IsTrue (is_point_within NEEDLE_LIMIT p) → count ≤ room
      → room + room_of_loose h ≤ MAX_COMMANDS
      → ((at' count' : ℕ) → count' ≤ room + room_of_loose h → GoesOn write_limits.limit count' p (read 0 at' rest) false false acts)
      → GoesOn write_limits.limit count place (read run at (concat (hop_records encoding h (move_between place p)) ++ rest)) true jumped
      (act.Needle p false ∷ acts)
  goes_loose zero at count run place p room rest jumped acts is past here there few fits on =
      let same : position_after_move place origin ≡ p = position_after_move-none place ∙ no_hops write_limits.limit place p b.limit is in
      let still : concat (hop_records encoding 0 (move_between place p)) ++ rest ≡ encoding.stitch origin ++ rest =
      ap (λ bytes. bytes ++ rest) (append-nil (encoding.stitch origin)) in
      let near = within_from write_limits.limit origin (omega arith) (omega arith) in
      goes_as (ap (read run at) still ∙ b.stitch run at origin rest near)
      (subst (λ float. GoesOn write_limits.limit count place (next at (event.Stitch origin)
      (read 0 (at + length (encoding.stitch origin)) rest)) true jumped (act.Needle p float ∷ acts)) (no_float jumped)
      (goes_stitch write_limits.limit at count place origin p (read 0 (at + length (encoding.stitch origin)) rest) true jumped acts
      near same there (omega (arith, few, fits)) (on (at + length (encoding.stitch origin)) (count + 1) (omega (arith, few)))))
  goes_loose (suc h) at count run place p room rest jumped acts is past here there few fits on =
      let enough = loose_enough taken.max_jumps (suc h) run b.late past in
      let small = hops_enough write_limits.limit (move_between place p) b.limit in
      goes_hops read encoding write_limits taken b at count run place (move_between place p) p (suc h) rest true jumped acts
      (lies_from write_limits.limit place p (suc h) (omega arith)
      (subst (λ n. move_size (move_between place p) ≤ n * write_limits.limit) is small) here there)
      (moved-between place p) (λ tied. absurd (let no : ⊥ = cc in no)) (omega (arith, enough, few, fits))
      (λ at' count' counted. on at' count' (omega (arith, counted, enough, few)))

  -- a float that is short enough for jumps alone
  goes_float : (n at count : ℕ) (place p : Point) (room : ℕ) (rest : List ℕ) (acts : List Act)
      → Lies write_limits.limit place (move_between place p) n → Spares taken.max_jumps (0 + n) → count ≤ room
      → room + (n + 1) ≤ MAX_COMMANDS
      → ((at' count' : ℕ) → count' ≤ room + (n + 1) → GoesOn write_limits.limit count' p (read 0 at' rest) false false acts)
      → GoesOn write_limits.limit count place (read 0 at (concat (hop_records encoding n (move_between place p)) ++ rest)) false false
      (act.Needle p true ∷ acts)
  goes_float n at count place p room rest acts lies spares few fits on =
      let none = trims_none taken.max_jumps 0 n spares in
      goes_hops read encoding write_limits taken b at count 0 place (move_between place p) p n rest false false acts lies
      (moved-between place p) (λ tied. spares) (omega (arith, none, few, fits))
      (λ at' count' counted. on at' count' (omega (arith, counted, none, few)))

  -- the longest float that may be written
  goes_longest : (n at count : ℕ) (place p : Point) (room : ℕ) (rest : List ℕ) (acts : List Act)
      → Lies write_limits.limit place (move_between place p) n → 1 < n → Spares taken.max_jumps (0 + (n - 1)) → count ≤ room
      → room + (n + 1) ≤ MAX_COMMANDS
      → ((at' count' : ℕ) → count' ≤ room + (n + 1) → GoesOn write_limits.limit count' p (read 0 at' rest) false false acts)
      → GoesOn write_limits.limit count place (read 0 at (concat (stitched_hop_records encoding n (move_between place p)) ++ rest)) false
      false (act.Needle p true ∷ acts)
  goes_longest n at count place p room rest acts lies some spares few fits on =
      let none = trims_none taken.max_jumps 0 (n - 1) spares in
      goes_last_stitched read encoding write_limits taken b at count 0 place (move_between place p) p n rest false false acts lies some
      (moved-between place p) (λ tied. spares) (omega (arith, none, few, fits))
      (λ at' count' counted. on at' count' (omega (arith, counted, none, few)))

  -- a float by its number of jumps, which is not above the most
  goes_floats : (most hop : Option ℕ) (n at count : ℕ) (place p : Point) (room : ℕ) (rest : List ℕ) (acts : List Act)
      → taken.max_jumps ≡ most → hop ≡ option_map suc most → AllowsTwoJumps most → is_above_max hop n ≡ false
      → Lies write_limits.limit place (move_between place p) n → count ≤ room → room + (n + 1) ≤ MAX_COMMANDS
      → ((at' count' : ℕ) → count' ≤ room + (n + 1) → GoesOn write_limits.limit count' p (read 0 at' rest) false false acts)
      → GoesOn write_limits.limit count place (read 0 at (concat (if is_at_max hop n then
      stitched_hop_records encoding n (move_between place p) else hop_records encoding n (move_between place p)) ++ rest))
      false false (act.Needle p true ∷ acts)
  goes_floats None None n at count place p room rest acts of_most of_hop late passed lies few fits on =
      goes_float n at count place p room rest acts lies (subst (λ most. Spares most (0 + n)) (sym of_most) tt) few fits on
  goes_floats None (Some hop) n at count place p room rest acts of_most of_hop late passed lies few fits on =
      absurd (let no : ⊥ = cc in no)
  goes_floats (Some most) None n at count place p room rest acts of_most of_hop late passed lies few fits on =
      absurd (let no : ⊥ = cc in no)
  goes_floats (Some most) (Some hop) n at count place p room rest acts of_most of_hop late passed lies few fits on =
      let above : hop ≡ suc most = cc in
      let short : n ≤ hop = ltb-false hop n passed in
      by_test (n == hop) refl above short
    where
      by_test : (test : Bool) → (n == hop) ≡ test → hop ≡ suc most → n ≤ hop
          → GoesOn write_limits.limit count place (read 0 at (concat (if test then stitched_hop_records encoding n (move_between place p)
          else hop_records encoding n (move_between place p)) ++ rest)) false false (act.Needle p true ∷ acts)
      by_test true is above short =
          let same : n ≡ hop = eqb-true n hop is in
          goes_longest n at count place p room rest acts lies (omega (arith, same, above, late))
          (subst (λ most. Spares most (0 + (n - 1))) (sym of_most) (omega (arith, same, above))) few fits on
      by_test false is above short =
          let other : n ≢ hop = eqb-false n hop is in
          goes_float n at count place p room rest acts lies
          (subst (λ most. Spares most (0 + n)) (sym of_most) (omega (arith, other, above, short))) few fits on

  -- a needle
  goes_needle : (loose float : Bool) (place p : Point) (number at count run room : ℕ) (jumped : Bool) (rest : List ℕ) (acts : List Act)
      → Between taken.max_jumps loose run jumped → IsTrue (is_told loose (act.Needle p float)) → IsTrue (is_point_within NEEDLE_LIMIT place)
      → IsTrue (is_point_within NEEDLE_LIMIT p) → refusal_of_needle write_limits loose float (move_between place p) number ≡ None
      → count ≤ room → room + room_of_needle write_limits.limit loose float (move_between place p) ≤ MAX_COMMANDS
      → ((at' count' : ℕ) → count' ≤ room + room_of_needle write_limits.limit loose float (move_between place p) → GoesOn write_limits.limit
      count' p (read 0 at' rest) false false acts)
      → GoesOn write_limits.limit count place (read run at (concat (needle_records encoding write_limits loose float (move_between place p))
      ++ rest)) loose jumped (act.Needle p float ∷ acts)
  goes_needle true true place p number at count run room jumped rest acts between told here there passed few fits on = cc
  goes_needle true false place p number at count run room jumped rest acts between told here there passed few fits on =
      goes_loose (hops_of write_limits.limit (move_between place p)) at count run place p room rest jumped acts
      refl between here there few fits on
  goes_needle false true place p number at count run room jumped rest acts between told here there passed few fits on =
      let m = move_between place p in
      let h = hops_of write_limits.limit m in
      let short = not_refused (is_above_max write_limits.float_hops h) (fault.FloatTooLong number) passed in
      let small = hops_enough write_limits.limit m b.limit in
      subst (λ r. GoesOn write_limits.limit count place (read r at (concat (float_records encoding write_limits (max 1 h) m) ++ rest)) false
      jumped (act.Needle p true ∷ acts)) (sym between.0)
      (subst (λ j. GoesOn write_limits.limit count place (read 0 at (concat (float_records encoding write_limits (max 1 h) m) ++ rest))
      false j (act.Needle p true ∷ acts)) (sym between.1)
      (goes_floats taken.max_jumps write_limits.float_hops (max 1 h) at count place p room rest acts refl
      b.hops b.late (passed_once taken.max_jumps write_limits.float_hops h b.hops short)
      (lies_from write_limits.limit place p (max 1 h) (omega arith) (long_enough (move_size m) h small) here there) few fits on))
    where
      long_enough : (size h : ℕ) → size ≤ h * write_limits.limit → size ≤ max 1 h * write_limits.limit
      long_enough size h small = le_trans small (mul-le-mul (let more : h ≤ max 1 h = omega arith in more) (le_refl write_limits.limit))
  goes_needle false false place p number at count run room jumped rest acts between told here there passed few fits on =
      let m = move_between place p in
      let short : move_size m ≤ write_limits.limit = ltb-false write_limits.limit (move_size m)
      (not_refused (nat_lt write_limits.limit (move_size m)) (fault.StitchTooLong number) passed) in
      let near = within-size write_limits.limit m short in
      let alone : concat (needle_records encoding write_limits false false m) ++ rest ≡ encoding.stitch m ++ rest =
      ap (λ bytes. bytes ++ rest) (append-nil (encoding.stitch m)) in
      goes_as (ap (read run at) alone ∙ b.stitch run at m rest near)
      (subst (λ j. GoesOn write_limits.limit count place (next at (event.Stitch m) (read 0 (at + length (encoding.stitch m)) rest))
      false j (act.Needle p false ∷ acts)) (sym between.1)
      (goes_stitch write_limits.limit at count place m p (read 0 (at + length (encoding.stitch m)) rest) false false acts near
      (moved-between place p) there (omega (arith, few, fits)) (on (at + length (encoding.stitch m)) (count + 1) (omega (arith, few)))))

  -- an act
  goes_act : (loose : Bool) (place : Point) (stops room : ℕ) (a : Act) (number at count run : ℕ) (jumped : Bool) (rest : List ℕ)
      (acts : List Act) → Between taken.max_jumps loose run jumped → IsTrue (is_told loose a) → IsTrue (is_point_within NEEDLE_LIMIT place)
      → IsTrue (is_act_in_range a) → refusal_before_room write_limits (stands loose place stops room) a number ≡ None → count ≤ room
      → room + room_of_act write_limits.limit loose place a ≤ MAX_COMMANDS
      → ((at' count' run' : ℕ) (jumped' : Bool) → Between taken.max_jumps (leaves_thread_loose a) run' jumped' → count' ≤ room + room_of_act
      write_limits.limit loose place a → GoesOn write_limits.limit count' (needle_position_after place a) (read run' at' rest)
      (leaves_thread_loose a) jumped' acts)
      → GoesOn write_limits.limit count place (read run at (concat (records_of_act encoding write_limits (stands loose place stops room) a)
      ++ rest)) loose jumped (a ∷ acts)
  goes_act loose place stops room (act.Needle p float) number at count run jumped rest acts between told here there passed few fits on =
      goes_needle loose float place p number at count run room jumped rest acts between told here
      there passed few fits (λ at' count' counted. on at' count' 0 false (refl, refl) counted)
  goes_act true place stops room act.Trim number at count run jumped rest acts between told here there passed few fits on = cc
  goes_act false place stops room act.Trim number at count run jumped rest acts between told here there passed few fits on =
      subst (λ r. GoesOn write_limits.limit count place (read r at (concat encoding.trim ++ rest)) false jumped (act.Trim ∷ acts))
      (sym between.0) (goes_trimmed taken.trim write_limits.limit count room place (read 0 at (concat encoding.trim ++ rest))
      (read taken.run (at + length (concat encoding.trim)) rest) jumped acts b.is_trim (b.trim at rest) here few fits
      (λ count' jumped' counted. on (at + length (concat encoding.trim)) count' taken.run jumped' b.past counted))
  goes_act loose place stops room act.Stop number at count run jumped rest acts between told here there passed few fits on =
      let alone : concat (encoding.stop stops ∷ []) ++ rest ≡ encoding.stop stops ++ rest =
      ap (λ bytes. bytes ++ rest) (append-nil (encoding.stop stops)) in
      goes_as (ap (read run at) alone ∙ b.stop run at stops rest)
      (goes_stop write_limits.limit at count place taken.stop (read 0 (at + length (encoding.stop stops)) rest) loose jumped acts
      b.is_stop (omega (arith, few, fits))
      (on (at + length (encoding.stop stops)) (count + 1) 0 false (broken taken.max_jumps) (omega (arith, few))))

  -- the records of acts that are not refused
  pub goes_acts : (end : List ℕ) → ((run at : ℕ) → read run at end ≡ over true)
      → (acts : List NumberedAct) (s : EncoderState) (at count run : ℕ) (jumped : Bool) → Between taken.max_jumps s.loose run jumped
      → IsTrue (are_told s.loose acts) → IsTrue (is_point_within NEEDLE_LIMIT s.place) → IsTrue (are_in_range acts)
      → first_refusal_from write_limits s acts ≡ None → count ≤ s.room
      → GoesOn write_limits.limit count s.place (read run at (concat (records_of_acts_from encoding write_limits s acts) ++ end)) s.loose
      jumped (acts_without_numbers acts)
  goes_acts end ends [] s at count run jumped between told here all passed few =
      goes_as (ends run at) (goes_end write_limits.limit count s.place s.loose jumped)
  goes_acts end ends (a ∷ rest) s at count run jumped between told here all passed few =
      let after = encoder_state_after write_limits.limit s a.act in
      let first = or_else_none (refusal_of_act write_limits s a) (first_refusal_from write_limits after rest) passed in
      let own = or_else_none (refusal_before_room write_limits s a.act a.number)
      (refusal_if (nat_lt MAX_COMMANDS after.room) (fault.TooLong a.number)) first.0 in
      let fits : after.room ≤ MAX_COMMANDS = ltb-false MAX_COMMANDS after.room
      (not_refused (nat_lt MAX_COMMANDS after.room) (fault.TooLong a.number) own.1) in
      let tells = and_parts (is_told s.loose a.act) (are_told (leaves_thread_loose a.act) rest) told in
      let ranges = and_parts (is_act_in_range a.act) (are_in_range rest) all in
      let more = concat (records_of_acts_from encoding write_limits after rest) ++ end in
      goes_as (ap (read run at) (concat_both (records_of_act encoding write_limits s a.act)
      (records_of_acts_from encoding write_limits after rest) end))
      (goes_act s.loose s.place s.stops s.room a.act a.number at count run jumped more (acts_without_numbers rest)
      between tells.0 here ranges.0 own.0 few fits (λ at' count' run' jumped' between' counted.
      goes_acts end ends rest after at' count' run' jumped' between' tells.1
      (range_after s.place a.act here ranges.0) ranges.1 first.1 counted))
