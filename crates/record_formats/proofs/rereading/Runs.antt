-- How reading goes on over a run of jumps that make up a move, and a stitch after them.
use Rattle.std.proofs.Common.{◌≡◌, ℕ, zero, suc, ◌+◌, ◌-◌, ◌<◌, ◌≤◌, Bool, true, false, not, ◌&&◌, IsTrue, List, [], ◌∷◌, ◌++◌, length, map, Option, Some, None, if◌then◌else◌, refl, ap, sym, ◌∙◌, subst, arith}
use Rattle.std.proofs.lemmas.List.{append_assoc}
use Rattle.record_formats.proofs.Names.{nat_tests, ints, eqb-true, append-nil, concat, Act, MAX_COMMANDS, Point, NEEDLE_LIMIT, JUMP_LIMIT, is_point_within, origin, move_between, WriteLimits, position_after_move, part_end, part_moves_from, Records, next, EncodedEvents, DecodesEncoding, RecordEncoding, is_at_max, hop_records, stitched_hop_records, within_from, ne_eqb}
use Rattle.design_model.specs.declared.act.Act.TheVariants as act
use Rattle.record_formats.specs.declared.event.Event.TheVariants as event
use Rattle.record_formats.proofs.PointLemmas.{position_after_move-none}
use Rattle.record_formats.proofs.rereading.Parts.{Lies, part_within, part_all, part_none, part_in_range, moved-on}
use Rattle.record_formats.proofs.rereading.Steps.{GoesOn, goes_stitch, goes_jump, goes_trimmed_jump}
use Rattle.record_formats.proofs.WriterLemmas.{concat-append}

-- the number of trims that n jump records are decoded as, after a run of jump records
abbrev pub trims_in : Option ℕ → ℕ → ℕ → ℕ
trims_in most run zero = 0
trims_in most run (suc more) = (if is_at_max most run then 1 else 0) + trims_in most (run + 1) more

-- no jump record of a run of n is decoded as a trim
abbrev pub Spares : Option ℕ → ℕ → Type 0
Spares None run = Unit {0}
Spares (Some most) run = run ≤ most

-- whether a jump came after n more
abbrev pub jumped_after : Bool → ℕ → Bool
jumped_after jumped zero = jumped
jumped_after jumped (suc more) = true

jumped_still : (more : ℕ) → jumped_after true more ≡ true
jumped_still more = grind (arith, nat_tests, ints)

jumped_once : (jumped : Bool) (more : ℕ) → 0 < more → jumped_after jumped more ≡ true
jumped_once jumped more h1 = grind (arith, nat_tests, ints)

trims_never : (run more : ℕ) → trims_in None run more ≡ 0
trims_never run zero = refl
trims_never run (suc more) = omega (arith, trims_never (run + 1) more)

-- a long run holds no further trim
pub trims_over : (most run more : ℕ) → most < run → trims_in (Some most) run more ≡ 0
trims_over most run zero over = refl
trims_over most run (suc more) over = grind (arith, nat_tests, ne_eqb, (trims_over most (run + 1) more (omega (arith, over))))

-- a short one holds none
pub trims_none : (most : Option ℕ) (run more : ℕ) → Spares most (run + more) → trims_in most run more ≡ 0
trims_none None run more short = trims_never run more
trims_none (Some most) run zero short = refl
trims_none (Some most) run (suc more) short =
    grind (arith, nat_tests, ne_eqb, (trims_none (Some most) (run + 1) more (omega (arith, short))))

-- any other holds one at most
pub trims_few : (most : Option ℕ) (run more : ℕ) → trims_in most run more ≤ 1
trims_few None run more = omega (arith, trims_never run more)
trims_few (Some most) run zero = omega arith
trims_few (Some most) run (suc more) = grind (arith, nat_tests, trims_over, eqb-true, (trims_few (Some most) (run + 1) more))

pub goes_as : {limit count : ℕ} {place : Point} {records other : Records} {loose jumped : Bool} {acts : List Act}
    → other ≡ records → GoesOn limit count place records loose jumped acts → GoesOn limit count place other loose jumped acts
goes_as h1 h2 = grind (arith, nat_tests, ints)

-- a jump, whether it is taken for a trim too or not; only a loose thread may meet one that is
goes_any : (cut : Bool) (limit at count : ℕ) (place m there : Point) (rest : Records) (loose jumped : Bool) (acts : List Act)
    → IsTrue (is_point_within limit m) → position_after_move place m ≡ there → IsTrue (is_point_within JUMP_LIMIT there)
    → (loose ≡ false → cut ≡ false) → count + (if cut then 1 else 0) < MAX_COMMANDS
    → GoesOn limit (count + (if cut then 1 else 0) + 1) there rest loose true acts
    → GoesOn limit count place (next at (if cut then event.TrimmedJump m else event.Jump m) rest) loose jumped acts
goes_any false limit at count place m there rest loose jumped acts near to here free few goes = grind (arith, nat_tests, goes_jump)
goes_any true limit at count place m there rest true jumped acts near to here free few goes =
    let two : count + 1 + 1 ≡ count + 2 = omega arith in
    goes_trimmed_jump limit at count place m there rest true jumped acts near to here few
    (subst (λ n. GoesOn limit n there rest true true acts) two goes)
goes_any true limit at count place m there rest false jumped acts near to here free few goes =
    absurd (let is : true ≡ false = free refl in let no : ⊥ = cc in no)

-- a jump of a run that is spared is taken for a jump
spared : (most : Option ℕ) (run more : ℕ) → Spares most (run + suc more) → is_at_max most run ≡ false
spared most run more h1 = grind (arith, nat_tests, ints)

spares_next : (most : Option ℕ) (run more : ℕ) → Spares most (run + suc more) → Spares most (run + 1 + more)
spares_next most run more h1 = grind (arith, nat_tests, ints)

pub concat_last : (xs : List (List ℕ)) (last rest : List ℕ) → concat (xs ++ last ∷ []) ++ rest ≡ concat xs ++ (last ++ rest)
concat_last xs last rest = grind (arith, nat_tests, append_assoc, concat-append, append-nil)

-- what a reader that decodes each encoded record makes of the records of moves
module _ (read : ℕ → ℕ → List ℕ → Records) (encoding : RecordEncoding) (write_limits : WriteLimits) (taken : EncodedEvents)
    (b : DecodesEncoding read encoding write_limits taken) where
  -- jumps over the next parts of a move
  pub goes_parts : (more at count run : ℕ) (place m : Point) (n done last : ℕ) (rest : List ℕ) (loose jumped : Bool) (acts : List Act)
      → Lies write_limits.limit place m n → done + more ≡ last → last ≤ n → (loose ≡ false → Spares taken.max_jumps (run + more))
      → count + more + trims_in taken.max_jumps run more ≤ MAX_COMMANDS
      → ((at' count' run' : ℕ) → count' ≡ count + more + trims_in taken.max_jumps run more → GoesOn write_limits.limit count'
      (position_after_move place (part_end m n last)) (read run' at' rest) loose (jumped_after jumped more) acts)
      → GoesOn write_limits.limit count (position_after_move place (part_end m n done)) (read run at (concat (map encoding.jump
      (part_moves_from m n done more)) ++ rest)) loose jumped acts
  goes_parts zero at count run place m n done last rest loose jumped acts lies sum less free few on =
      let same : last ≡ done = omega (arith, sum) in
      subst (λ d. GoesOn write_limits.limit count (position_after_move place (part_end m n d)) (read run at rest) loose jumped acts) same
      (on at count run (omega arith))
  goes_parts (suc more) at count run place m n done last rest loose jumped acts lies sum less free few on =
      let step = move_between (part_end m n done) (part_end m n (done + 1)) in
      let others = concat (map encoding.jump (part_moves_from m n (done + 1) more)) in
      let near = part_within write_limits.limit m n done lies.splits in
      let cut : ℕ = if is_at_max taken.max_jumps run then 1 else 0 in
      goes_as (ap (read run at) (append_assoc (encoding.jump step) others rest) ∙ b.jump run at step (others ++ rest) near)
      (goes_any (is_at_max taken.max_jumps run) write_limits.limit at count (position_after_move place (part_end m n done)) step
      (position_after_move place (part_end m n (done + 1))) (read (run + 1) (at + length (encoding.jump step)) (others ++ rest)) loose
      jumped acts near (moved-on place (part_end m n done) (part_end m n (done + 1)))
      (part_in_range write_limits.limit place m n (done + 1) lies (omega (arith, sum, less)))
      (λ tied. spared taken.max_jumps run more (free tied)) (omega (arith, few))
      (goes_parts more (at + length (encoding.jump step)) (count + cut + 1) (run + 1) place m n
      (done + 1) last rest loose true acts lies (omega (arith, sum)) less
      (λ tied. spares_next taken.max_jumps run more (free tied)) (omega (arith, few))
      (λ at' count' run' counted. subst (λ j. GoesOn write_limits.limit count' (position_after_move place (part_end m n last))
      (read run' at' rest) loose j acts) (sym (jumped_still more)) (on at' count' run' (omega (arith, counted))))))

  -- jumps over the first parts of a move, and a stitch over what is left of it
  goes_stitched : (some at count run : ℕ) (place m there step : Point) (n : ℕ) (rest : List ℕ) (loose jumped : Bool) (acts : List Act)
      → Lies write_limits.limit place m n → 0 < some → some ≤ n → IsTrue (is_point_within write_limits.limit step)
      → position_after_move (position_after_move place (part_end m n some)) step ≡ there → IsTrue (is_point_within NEEDLE_LIMIT there)
      → (loose ≡ false → Spares taken.max_jumps (run + some)) → count + some + trims_in taken.max_jumps run some < MAX_COMMANDS
      → ((at' count' : ℕ) → count' ≡ count + some + trims_in taken.max_jumps run some + 1 → GoesOn write_limits.limit count' there (read 0
      at' rest) false false acts)
      → GoesOn write_limits.limit count place (read run at (concat (map encoding.jump (part_moves_from m n 0 some) ++ encoding.stitch step ∷
      []) ++ rest)) loose jumped (act.Needle there (true && not loose) ∷ acts)
  goes_stitched some at count run place m there step n rest loose jumped acts lies more less near to here free few on =
      let jumps = map encoding.jump (part_moves_from m n 0 some) in
      goes_as (ap (read run at) (concat_last jumps (encoding.stitch step) rest))
      (subst (λ q. GoesOn write_limits.limit count q (read run at (concat jumps ++ (encoding.stitch step ++ rest))) loose jumped
      (act.Needle there (true && not loose) ∷ acts)) (part_none place m n lies.splits.some)
      (goes_parts some at count run place m n 0 some (encoding.stitch step ++ rest) loose jumped
      (act.Needle there (true && not loose) ∷ acts) lies (omega arith) less free (omega (arith, few))
      (λ at' count' run' counted. subst (λ j. GoesOn write_limits.limit count' (position_after_move place (part_end m n some))
      (read run' at' (encoding.stitch step ++ rest)) loose j (act.Needle there (true && not loose) ∷ acts))
      (sym (jumped_once jumped some more)) (goes_as (b.stitch run' at' step rest near)
      (goes_stitch write_limits.limit at' count' (position_after_move place (part_end m n some)) step there
      (read 0 (at' + length (encoding.stitch step)) rest) loose true acts near to here (omega (arith, few, counted))
      (on (at' + length (encoding.stitch step)) (count' + 1) (omega (arith, counted))))))))

  -- jumps that make up a move, and a stitch without a move
  pub goes_hops : (at count run : ℕ) (place m there : Point) (n : ℕ) (rest : List ℕ) (loose jumped : Bool) (acts : List Act)
      → Lies write_limits.limit place m n → position_after_move place m ≡ there → (loose ≡ false → Spares taken.max_jumps (run + n))
      → count + n + trims_in taken.max_jumps run n < MAX_COMMANDS
      → ((at' count' : ℕ) → count' ≡ count + n + trims_in taken.max_jumps run n + 1 → GoesOn write_limits.limit count' there (read 0 at'
      rest) false false acts)
      → GoesOn write_limits.limit count place (read run at (concat (hop_records encoding n m) ++ rest)) loose jumped (act.Needle there (true
      && not loose) ∷ acts)
  goes_hops at count run place m there n rest loose jumped acts lies to free few on =
      goes_stitched n at count run place m there origin n rest loose jumped acts lies
      lies.splits.some (omega arith) (within_from write_limits.limit origin (omega arith) (omega arith))
      (position_after_move-none (position_after_move place (part_end m n n))
      ∙ ap (position_after_move place) (part_all m n lies.splits.some) ∙ to)
      (subst (λ q. IsTrue (is_point_within NEEDLE_LIMIT q)) to lies.there) free few on

  -- jumps over all parts of a move but the last, and a stitch in its place
  pub goes_last_stitched : (at count run : ℕ) (place m there : Point) (n : ℕ) (rest : List ℕ) (loose jumped : Bool) (acts : List Act)
      → Lies write_limits.limit place m n → 1 < n → position_after_move place m ≡ there
      → (loose ≡ false → Spares taken.max_jumps (run + (n - 1))) → count + (n - 1) + trims_in taken.max_jumps run (n - 1) < MAX_COMMANDS
      → ((at' count' : ℕ) → count' ≡ count + (n - 1) + trims_in taken.max_jumps run (n - 1) + 1 → GoesOn write_limits.limit count' there
      (read 0 at' rest) false false acts)
      → GoesOn write_limits.limit count place (read run at (concat (stitched_hop_records encoding n m) ++ rest)) loose jumped (act.Needle
      there (true && not loose) ∷ acts)
  goes_last_stitched at count run place m there n rest loose jumped acts lies some to free few on =
      let whole : part_end m n (n - 1 + 1) ≡ m =
      ap (part_end m n) (let same : n - 1 + 1 ≡ n = omega (arith, some) in same) ∙ part_all m n lies.splits.some in
      goes_stitched (n - 1) at count run place m there (move_between (part_end m n (n - 1)) m) n rest
      loose jumped acts lies (omega (arith, some)) (omega arith)
      (subst (λ q. IsTrue (is_point_within write_limits.limit (move_between (part_end m n (n - 1)) q))) whole
      (part_within write_limits.limit m n (n - 1) lies.splits)) (moved-on place (part_end m n (n - 1)) m ∙ to)
      (subst (λ q. IsTrue (is_point_within NEEDLE_LIMIT q)) to lies.there) free few on
