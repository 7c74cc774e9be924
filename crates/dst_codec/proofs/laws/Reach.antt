-- No stitch and no float that was read is too long to be written: a stitch is one record's move,
-- and between a needle and a float's needle at most two jumps are read, since a third is a trim.
use Rattle.std.proofs.Common.{◌≡◌, ◌≢◌, ℕ, ◌+◌, ◌*◌, min, ◌≤◌, ℤ, ◌+ℤ◌, ◌-ℤ◌, unsigned_abs, Bool, true, false, not, ◌&&◌, List, [], ◌∷◌, length, drop, Option, Some, None, Result, Ok, Err, IfOk, nat_lt, ◌==◌, if◌then◌else◌, refl, sym, subst, arith}
use Rattle.dst_codec.proofs.Names.{nat_tests, ints, NumberedAct, Command, Stitch, Jump, Trim, Stop, Point, acts_along, origin, move_between, ReadFault, WriteFault, EncoderState, loaded_with, Records, next, file_commands, initial_encoder_state, encoder_state_after, first_refusal, unless_refused, LIMIT, HEADER_LENGTH, RecordKind, dst_move_of, kind_of, ReadMovesAreWritable, record_of_kind, run_after_kind, dst_records_from, dst_records_in, dst_label_of, dst_write_limits, dst_file_of, dst_writes, eqb-false, acts_from, numbered, move_size, is_same_point, position_after_move, FileCommands, checked_command, checked_commands, file_commands_from, is_above_max, refusal_if, refusal_of_needle, refusal_before_room, first_refusal_from}
use Rattle.design_model.specs.declared.act.Act.TheVariants as act
use Rattle.record_formats.specs.declared.event.Event.TheVariants as event
use Rattle.format_traits.specs.declared.fault.ReadFault.TheVariants as read
use Rattle.format_traits.specs.declared.fault.WriteFault.TheVariants as fault
use Rattle.dst_codec.specs.declared.record_kind.RecordKind.TheVariants as kind

-- the refusal of a long stitch or a long float
abbrev pub is_long : Option WriteFault → Bool
is_long None = false
is_long (Some (fault.StitchTooLong number)) = true
is_long (Some (fault.FloatTooLong number)) = true
is_long (Some (fault.TooManyStops number)) = false
is_long (Some (fault.TooLong number)) = false
is_long (Some fault.Memory) = false

long-stops : (b : Bool) (number : ℕ) → is_long (refusal_if b (fault.TooManyStops number)) ≡ false
long-stops b number = grind (arith, nat_tests, ints)

-- how far a reader can be from the last needle, while the thread is not loose
pub record IsNear (needle : Point) (run : ℕ) (place : Point) (jumped : Bool) : Type 0 where
  pub few : run ≤ 2
  pub still : jumped ≡ false → run ≡ 0
  pub x : unsigned_abs (place.x -ℤ needle.x) ≤ run * LIMIT
  pub y : unsigned_abs (place.y -ℤ needle.y) ≤ run * LIMIT

farther : (x z n : ℤ) (run : ℕ) → unsigned_abs (x -ℤ n) ≤ run * LIMIT → unsigned_abs z ≤ LIMIT
    → unsigned_abs ((x +ℤ z) -ℤ n) ≤ (run + 1) * LIMIT
farther x z n run near small = omega (arith, ints)

at_needle : (p : Point) → IsNear p 0 p false
at_needle p = grind (arith, nat_tests, ints)

-- no act of the commands is refused as long
abbrev IsWithin : Bool → EncoderState → List Command → Type 0
IsWithin jumped s commands = (n : ℕ) → is_long (first_refusal_from dst_write_limits s (acts_from n s.loose jumped commands)) ≡ false

-- an act and those after it
one_more : (s : EncoderState) (a : NumberedAct) (rest : List NumberedAct)
    → is_long (refusal_before_room dst_write_limits s a.act a.number) ≡ false
    → is_long (first_refusal_from dst_write_limits (encoder_state_after LIMIT s a.act) rest) ≡ false
    → is_long (first_refusal_from dst_write_limits s (a ∷ rest)) ≡ false
one_more s a rest h1 h2 = grind (arith, nat_tests, ints)

-- a needle after the next record
long-needle : (loose jumped : Bool) (m : Point) (run number : ℕ)
    → (loose ≡ false → (run ≤ 2) × (jumped ≡ false → run ≡ 0) × (move_size m ≤ (run + 1) * LIMIT))
    → is_long (refusal_of_needle dst_write_limits loose (jumped && not loose) m number) ≡ false
long-needle loose jumped m run number h1 = grind (arith, nat_tests, ints)

-- a stitch by a record's move
within-stitch : (s : EncoderState) (jumped : Bool) (run : ℕ) (place m : Point) (commands : List Command)
    → (s.loose ≡ false → IsNear s.place run place jumped) → (unsigned_abs m.x ≤ LIMIT) × (unsigned_abs m.y ≤ LIMIT)
    → ((s' : EncoderState) → s'.loose ≡ false → s'.place ≡ position_after_move place m → IsWithin false s' commands)
    → IsWithin jumped s (Stitch (position_after_move place m) ∷ commands)
within-stitch s jumped run place m commands near small more = λ n.
    let a = numbered n (act.Needle (position_after_move place m) (jumped && not s.loose)) in
    one_more s a (acts_from (n + 1) false false commands)
    (long-needle s.loose jumped (move_between s.place (position_after_move place m)) run n (λ tied.
    let is = near tied in
    let x = farther place.x m.x s.place.x run is.x small.0 in
    let y = farther place.y m.y s.place.y run is.y small.1 in
    (is.few, is.still, omega (arith, x, y))))
    (more (encoder_state_after LIMIT s a.act) refl refl (n + 1))

within-jump : (s : EncoderState) (jumped : Bool) (there : Point) (commands : List Command)
    → IsWithin true s commands → IsWithin jumped s (Jump there ∷ commands)
within-jump s jumped there commands more = λ n. more (n + 1)

-- the third jump of a run
within-third : (loose : Bool) (s : EncoderState) (jumped : Bool) (there : Point) (commands : List Command) → s.loose ≡ loose
    → ((s' : EncoderState) → s'.loose ≡ true → IsWithin true s' commands) → IsWithin jumped s (Trim ∷ Jump there ∷ commands)
within-third true s jumped there commands is more = λ n.
    subst (λ l. is_long (first_refusal_from dst_write_limits s (acts_from n l jumped (Trim ∷ Jump there ∷ commands))) ≡ false) (sym is)
    (subst (λ l. is_long (first_refusal_from dst_write_limits s (acts_from (n + 1 + 1) l true commands)) ≡ false) is
    (more s is (n + 1 + 1)))
within-third false s jumped there commands is more = λ n.
    subst (λ l. is_long (first_refusal_from dst_write_limits s (acts_from n l jumped (Trim ∷ Jump there ∷ commands))) ≡ false) (sym is)
    (one_more s (numbered n act.Trim) (acts_from (n + 1 + 1) true true commands) refl
    (more (encoder_state_after LIMIT s act.Trim) refl (n + 1 + 1)))

-- a stop
within-stop : (s : EncoderState) (jumped : Bool) (commands : List Command)
    → ((s' : EncoderState) → s'.loose ≡ true → IsWithin false s' commands) → IsWithin jumped s (Stop ∷ commands)
within-stop s jumped commands more = λ n.
    one_more s (numbered n act.Stop) (acts_from (n + 1) true false commands)
    (long-stops (is_above_max dst_write_limits.stops (s.stops + 1)) n)
    (more (encoder_state_after LIMIT s act.Stop) refl (n + 1))

-- a command that is tried
tried_ok : (at count : ℕ) (command : Command) (rest : Result FileCommands ReadFault) (P : List Command → Type 0)
    → IfOk rest (λ course. P (command ∷ course.commands)) → IfOk (checked_command at count command rest) (λ course. P course.commands)
tried_ok at count command rest P h1 = grind (arith, nat_tests, ints)

-- the result of the rest, whatever is before it
abbrev RestIsWithin : ℕ → Point → Result FileCommands ReadFault → Type 0
RestIsWithin run place rest = (s : EncoderState) (jumped : Bool) → (s.loose ≡ false → IsNear s.place run place jumped)
    → IfOk rest (λ course. IsWithin jumped s course.commands)

-- a loose thread has no condition
loose_free : (P : Type 0) (s : EncoderState) → s.loose ≡ true → s.loose ≡ false → P
loose_free P s loose tied = absurd (let no : ⊥ = cc in no)

stitch_ok : (s : EncoderState) (jumped : Bool) (run : ℕ) (place m : Point) (rest : Result FileCommands ReadFault)
    → (unsigned_abs m.x ≤ LIMIT) × (unsigned_abs m.y ≤ LIMIT)
    → (s.loose ≡ false → IsNear s.place run place jumped) → RestIsWithin 0 (position_after_move place m) rest
    → IfOk rest (λ course. IsWithin jumped s (Stitch (position_after_move place m) ∷ course.commands))
stitch_ok s jumped run place m (Err f) small near on = tt
stitch_ok s jumped run place m (Ok course) small near on =
    within-stitch s jumped run place m course.commands near small
    (λ s' loose here. on s' false (λ tied.
    subst (λ q. IsNear q 0 (position_after_move place m) false) (sym here) (at_needle (position_after_move place m))))

jump_ok : (s : EncoderState) (jumped : Bool) (run : ℕ) (place m : Point) (rest : Result FileCommands ReadFault)
    → (unsigned_abs m.x ≤ LIMIT) × (unsigned_abs m.y ≤ LIMIT) → run ≢ 2
    → (s.loose ≡ false → IsNear s.place run place jumped) → RestIsWithin (min (run + 1) 3) (position_after_move place m) rest
    → IfOk rest (λ course. IsWithin jumped s (Jump (position_after_move place m) ∷ course.commands))
jump_ok s jumped run place m (Err f) small other near on = tt
jump_ok s jumped run place m (Ok course) small other near on =
    within-jump s jumped (position_after_move place m) course.commands (on s true (λ tied.
    let is = near tied in
    let longer : run + 1 ≡ min (run + 1) 3 = omega (arith, is.few) in
    subst (λ n. IsNear s.place n (position_after_move place m) true) longer (record {
      few = omega (arith, is.few, other);
      still = λ same. absurd (let no : ⊥ = cc in no);
      x = farther place.x m.x s.place.x run is.x small.0;
      y = farther place.y m.y s.place.y run is.y small.1;
    })))

third_ok : (s : EncoderState) (jumped : Bool) (run : ℕ) (there : Point) (rest : Result FileCommands ReadFault) → RestIsWithin run there rest
    → IfOk rest (λ course. IsWithin jumped s (Trim ∷ Jump there ∷ course.commands))
third_ok s jumped run there (Err f) on = tt
third_ok s jumped run there (Ok course) on = within-third s.loose s jumped there course.commands refl
    (λ s' loose. on s' true (loose_free (IsNear s'.place run there true) s' loose))

stop_ok : (s : EncoderState) (jumped : Bool) (there : Point) (rest : Result FileCommands ReadFault) → RestIsWithin 0 there rest
    → IfOk rest (λ course. IsWithin jumped s (Stop ∷ course.commands))
stop_ok s jumped there (Err f) on = tt
stop_ok s jumped there (Ok course) on = within-stop s jumped course.commands
    (λ s' loose. on s' false (loose_free (IsNear s'.place 0 there false) s' loose))

stop_jump_ok : (s : EncoderState) (jumped : Bool) (there : Point) (rest : Result FileCommands ReadFault) → RestIsWithin 0 there rest
    → IfOk rest (λ course. IsWithin jumped s (Stop ∷ Jump there ∷ course.commands))
stop_jump_ok s jumped there (Err f) on = tt
stop_jump_ok s jumped there (Ok course) on = within-stop s jumped (Jump there ∷ course.commands)
    (λ s' loose. within-jump s' false there course.commands
    (on s' true (loose_free (IsNear s'.place 0 there true) s' loose)))

-- the result of records, whatever is before them
abbrev RecordsAreWithin : ℕ → Point → Records → Type 0
RecordsAreWithin run place records = (count : ℕ) → RestIsWithin run place (file_commands_from count place records)

-- a jump record, by whether it is the third of its run
jumps_ok : (third : Bool) (at count run : ℕ) (place m : Point) (s : EncoderState) (jumped : Bool) (rest : Records)
    → (run == 2) ≡ third → (unsigned_abs m.x ≤ LIMIT) × (unsigned_abs m.y ≤ LIMIT)
    → (s.loose ≡ false → IsNear s.place run place jumped) → RecordsAreWithin (min (run + 1) 3) (position_after_move place m) rest
    → IfOk (file_commands_from count place (next at (if third then event.TrimmedJump m else event.Jump m) rest))
    (λ course. IsWithin jumped s course.commands)
jumps_ok true at count run place m s jumped rest is small near on =
    let after = file_commands_from (count + 2) (position_after_move place m) rest in
    tried_ok at count Trim (checked_command at (count + 1) (Jump (position_after_move place m)) after) (IsWithin jumped s)
    (tried_ok at (count + 1) (Jump (position_after_move place m)) after (λ commands. IsWithin jumped s (Trim ∷ commands))
    (third_ok s jumped (min (run + 1) 3) (position_after_move place m) after (on (count + 2))))
jumps_ok false at count run place m s jumped rest is small near on =
    let after = file_commands_from (count + 1) (position_after_move place m) rest in
    tried_ok at count (Jump (position_after_move place m)) after (IsWithin jumped s)
    (jump_ok s jumped run place m after small (eqb-false run 2 is) near (on (count + 1)))

-- a stop record, by whether it moves
stops_ok : (still : Bool) (at count : ℕ) (there : Point) (s : EncoderState) (jumped : Bool) (rest : Records) → RecordsAreWithin 0 there rest
    → IfOk (checked_commands at count (if still then Stop ∷ [] else Stop ∷ Jump there ∷ [])
    (file_commands_from (count + length (if still then Stop ∷ [] else Stop ∷ Jump there ∷ [])) there rest))
    (λ course. IsWithin jumped s course.commands)
stops_ok true at count there s jumped rest on =
    let after = file_commands_from (count + 1) there rest in
    tried_ok at count Stop after (IsWithin jumped s) (stop_ok s jumped there after (on (count + 1)))
stops_ok false at count there s jumped rest on =
    let after = file_commands_from (count + 2) there rest in
    tried_ok at count Stop (checked_command at (count + 1) (Jump there) after) (IsWithin jumped s)
    (tried_ok at (count + 1) (Jump there) after (λ commands. IsWithin jumped s (Stop ∷ commands))
    (stop_jump_ok s jumped there after (on (count + 2))))

-- a record of each kind
record_ok : (k : RecordKind) (at count run : ℕ) (place m : Point) (s : EncoderState) (jumped : Bool)
    → (unsigned_abs m.x ≤ LIMIT) × (unsigned_abs m.y ≤ LIMIT) → (s.loose ≡ false → IsNear s.place run place jumped) → (rest : Records)
    → RecordsAreWithin (run_after_kind k run) (position_after_move place m) rest
    → IfOk (file_commands_from count place (record_of_kind k at run m rest)) (λ course. IsWithin jumped s course.commands)
record_ok kind.Stitch at count run place m s jumped small near rest on =
    let after = file_commands_from (count + 1) (position_after_move place m) rest in
    tried_ok at count (Stitch (position_after_move place m)) after (IsWithin jumped s)
    (stitch_ok s jumped run place m after small near (on (count + 1)))
record_ok kind.Jump at count run place m s jumped small near rest on =
    jumps_ok (run == 2) at count run place m s jumped rest refl small near on
record_ok kind.Stop at count run place m s jumped small near rest on =
    stops_ok (is_same_point m origin) at count (position_after_move place m) s jumped rest on
record_ok kind.Sequin at count run place m s jumped small near rest on = tt
record_ok kind.End at count run place m s jumped small near rest on = λ n. refl

-- the records from a place on
records_ok : (bytes : List ℕ) (at run : ℕ) (place : Point) → RecordsAreWithin run place (dst_records_from run at bytes)
records_ok [] at run place = λ count s jumped near. λ n. refl
records_ok (a ∷ []) at run place = λ count s jumped near. λ n. refl
records_ok (a ∷ b ∷ []) at run place = λ count s jumped near. λ n. refl
records_ok (a ∷ b ∷ c ∷ rest) at run place = λ count s jumped near.
    record_ok (kind_of c) at count run place (dst_move_of a b c) s jumped (grind (arith, nat_tests)) near
    (dst_records_from (run_after_kind (kind_of c) run) (at + 3) rest)
    (records_ok rest (at + 3) (run_after_kind (kind_of c) run) (position_after_move place (dst_move_of a b c)))

-- a refusal that is not long
not_long : (r : Option WriteFault) (bytes : List ℕ) (number : ℕ) → is_long r ≡ false
    → (unless_refused r bytes ≢ Err (fault.StitchTooLong number)) × (unless_refused r bytes ≢ Err (fault.FloatTooLong number))
not_long r bytes number h1 = grind (arith, nat_tests, ints)

-- what was read is not refused for a long stitch or a long float
pub read_is_within_reach : ReadMovesAreWritable
read_is_within_reach bytes = by_length (nat_lt (length bytes) HEADER_LENGTH)
    (file_commands (dst_records_in bytes))
    (records_ok (drop HEADER_LENGTH bytes) HEADER_LENGTH 0 origin 0 initial_encoder_state false
    (loose_free (IsNear origin 0 origin false) initial_encoder_state refl))
  where
    by_length : (b : Bool) (course : Result FileCommands ReadFault) → IfOk course (λ c. IsWithin false initial_encoder_state c.commands)
        → IfOk (if b then Err (read.Short (0 + length bytes)) else loaded_with (dst_label_of bytes) [] course) (λ loaded. (number : ℕ)
        → (dst_writes loaded.design ≢ Err (fault.StitchTooLong number)) × (dst_writes loaded.design ≢ Err (fault.FloatTooLong number)))
    by_length true course within = tt
    by_length false (Err f) within = tt
    by_length false (Ok c) within = λ number.
        not_long (first_refusal dst_write_limits (acts_along c.commands))
        (dst_file_of (dst_label_of bytes) (acts_along c.commands)) number (within 1)
