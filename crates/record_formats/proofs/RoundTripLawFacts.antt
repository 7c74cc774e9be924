-- What the conditions of the round trip exclude, and what its theorem states.
use Rattle.std.proofs.Common.{◌≡◌, ◌++◌, ◌+◌, ◌<◌, ℕ, pos, negsuc, true, List, [], ◌∷◌, None, Some, Ok, IsTrue, length, refl, arith, sym, true≢false, ⊎_elim}
use Rattle.design_model.specs.Designs.{DesignValue, KeepsLimits}
use Rattle.format_traits.specs.Refusals.{first_refusal}
use Rattle.record_formats.specs.RoundTrip.{DecodeToActs}
use Rattle.record_formats.specs.declared.event.Event.TheVariants as event
use Rattle.record_formats.proofs.RoundTripFacts.{point}
use Rattle.record_formats.proofs.Names.{AllowsTwoJumps, BeginWithEvents, DecodesEncoding, EncodedActsRoundTrip, EncodedEvents, Event, IsPastTrimmedJump, IsTrimSequence, NumberedAct, Point, RecordEncoding, Records, WriteLimits, acts_along, acts_of, acts_without_numbers, concat, file_commands, is_point_within, is_stop_in_place, list_all, moves_of_records, next, over, records_of_acts}

-- two jumps are jumps in a run: a maximum of one is too few
pub known_two : AllowsTwoJumps (Some 1) → ⊥
known_two allows = omega (arith, allows)

-- a run of one or of two, where two are the most, may still end in a trim; one of three is past it
pub known_past : (run : ℕ) → IsPastTrimmedJump (Some 2) run → (run ≡ 1 → ⊥) × (run ≡ 2 → ⊥)
known_past run past = (
  λ one. ⊎_elim (λ none. omega (arith, one, none)) (λ more. omega (arith, one, more)) past,
  λ two. ⊎_elim (λ none. omega (arith, two, none)) (λ more. omega (arith, two, more)) past,
)

-- a jump by (2, -4), a trim, and the jump back
abbrev there : Event
there = event.Jump (point (pos 2) (negsuc 3))

abbrev back : Event
back = event.Jump (point (negsuc 1) (pos 4))

pub known_trim : IsTrimSequence 4 (there ∷ event.Trim ∷ back ∷ [])
known_trim = record { cuts = refl; few = omega arith; back = refl; short = omega arith; within = refl }

-- it cuts once, has three events at most, comes back, is short, and has moves within the limit
abbrev jump_by : ℕ → Event
jump_by x = event.Jump (point (pos x) (pos 0))

abbrev jump_back : ℕ → Event
jump_back x = event.Jump (point (negsuc x) (pos 0))

pub known_no_cut : IsTrimSequence 4 (there ∷ back ∷ []) → ⊥
known_no_cut is = true≢false (sym is.cuts)

pub known_four : IsTrimSequence 4 (there ∷ event.Trim ∷ back ∷ jump_by 0 ∷ []) → ⊥
known_four is = omega (arith, is.few)

pub known_elsewhere : IsTrimSequence 4 (there ∷ event.Trim ∷ []) → ⊥
known_elsewhere is = never is.back
  where
    never : ◌≡◌ {A = Point} (point (pos 2) (negsuc 3)) (point (pos 0) (pos 0)) → ⊥
    never same = cc

-- 1,400 there and back are more than the 2,767 by which a jump may reach farther than a needle
pub known_long : IsTrimSequence 2000 (jump_by 1400 ∷ event.Trim ∷ jump_back 1399 ∷ []) → ⊥
known_long is = omega (arith, is.short)

pub known_far : IsTrimSequence 3 (there ∷ event.Trim ∷ back ∷ []) → ⊥
known_far is = true≢false (sym is.within)

-- a trim and a jump begin the records from 5 and 8 on, and nothing is left out
pub known_begin : BeginWithEvents (event.Trim ∷ there ∷ []) (next 5 event.Trim (next 8 there (over true))) (over true)
known_begin = (5, next 8 there (over true), refl, (8, over true, refl, refl))

pub known_not_begun : BeginWithEvents (event.Trim ∷ []) (next 5 event.Trim (next 8 there (over true))) (over true) → ⊥
known_not_begun begins = never begins.0 begins.1 begins.2 begins.3
  where
    never : (at : ℕ) (after : Records) → next 5 event.Trim (next 8 there (over true)) ≡ next at event.Trim after → after ≡ over true → ⊥
    never at after is ends = cc

-- A reader that decodes an encoding: each record as it was meant, whatever follows it.
pub known_decoded : (read : ℕ → ℕ → List ℕ → Records) (e : RecordEncoding) (w : WriteLimits) (t : EncodedEvents)
    (run at : ℕ) (m : Point) (rest : List ℕ) → DecodesEncoding read e w t → IsTrue (is_point_within w.limit m)
    → (read run at (e.stitch m ++ rest) ≡ next at (event.Stitch m) (read 0 (at + length (e.stitch m)) rest))
    × BeginWithEvents t.trim (read 0 at (concat e.trim ++ rest)) (read t.run (at + length (concat e.trim)) rest)
    × (read run at (e.stop 3 ++ rest) ≡ next at t.stop (read 0 (at + length (e.stop 3)) rest))
    × IsTrimSequence w.limit t.trim × IsTrue (is_stop_in_place t.stop) × AllowsTwoJumps t.max_jumps
    × IsPastTrimmedJump t.max_jumps t.run × (0 < w.limit)
known_decoded read e w t run at m rest decodes within = (
  decodes.stitch run at m rest within,
  decodes.trim at rest,
  decodes.stop run at 3 rest,
  decodes.is_trim,
  decodes.is_stop,
  decodes.late,
  decodes.past,
  decodes.limit,
)

-- the third jump of a run is decoded as a trim too where two are the most, and a float has one hop more
pub known_decoded_jump : (read : ℕ → ℕ → List ℕ → Records) (e : RecordEncoding) (w : WriteLimits) (trim : List Event) (end : Event)
    (after at : ℕ) (m : Point) (rest : List ℕ) → IsTrue (is_point_within w.limit m)
    → DecodesEncoding read e w (record { max_jumps = Some 2; trim = trim; run = after; stop = end })
    → (read 2 at (e.jump m ++ rest) ≡ next at (event.TrimmedJump m) (read 3 (at + length (e.jump m)) rest))
    × (read 1 at (e.jump m ++ rest) ≡ next at (event.Jump m) (read 2 (at + length (e.jump m)) rest))
    × (w.float_hops ≡ Some 3)
known_decoded_jump read e w trim end after at m rest within decodes =
    (decodes.jump 2 at m rest within, decodes.jump 1 at m rest within, decodes.hops)

-- The encoded acts of a design within the limits are read back: the file has an end, the acts are the same, and moves are within.
pub known_round_trip : EncodedActsRoundTrip → (read : ℕ → ℕ → List ℕ → Records) (e : RecordEncoding) (w : WriteLimits) (t : EncodedEvents)
    → DecodesEncoding read e w t → (d : DesignValue) → KeepsLimits d → first_refusal w (acts_of d) ≡ None
    → (at : ℕ) (rest : List ℕ) → ((run at : ℕ) → read run at rest ≡ over true)
    → DecodeToActs (read 0 at (concat (records_of_acts e w (acts_of d)) ++ rest)) (acts_of d) w.limit
known_round_trip law read e w t decodes d keeps accepted at rest ends = law read e w t decodes d keeps accepted at rest ends

pub known_read_back : (records : Records) (acts : List NumberedAct) (limit : ℕ) (is : DecodeToActs records acts limit)
    → (file_commands records ≡ Ok (record { commands = is.commands; ended = true }))
    × (acts_without_numbers (acts_along is.commands) ≡ acts_without_numbers acts)
    × IsTrue (list_all (λ move. is_point_within limit move) (moves_of_records records))
known_read_back records acts limit is = (is.course, is.again, is.within)
