-- How long what is written is.
use Rattle.std.proofs.Common.{◌≡◌, ℕ, zero, suc, ◌+◌, ◌*◌, ◌≤◌, Bool, true, false, List, [], ◌∷◌, ◌++◌, length, map, replicate, Ok, refl, arith, length-append}
use Rattle.pec_codec.proofs.Names.{nat_tests, ints, append_assoc, concat, Command, Point, DesignValue, KeepsLimits, AcceptedIsWithinLimits, LIMIT, MAX_STOPS, THUMBNAIL_LENGTH, pec_jump_record, pec_stitch_record, pec_body_of, pec_write_limits, pec_encoding, replicate-append-replicate, MAX_COMMANDS, acts_along, move_between, encoder_state_after, AppendsRecords, needle_records, records_of_acts_from, records_of_act, AppendsBody, loose_room, stops_along}
use Rattle.design_model.specs.declared.act.Act.{Act}
use Rattle.design_model.specs.declared.act.Act.TheVariants as act
use Rattle.design_model.specs.declared.act.NumberedAct.{NumberedAct}
use Rattle.format_traits.specs.declared.encoder_state.EncoderState.{EncoderState}
use Rattle.record_formats.specs.MoveParts.{part_moves_from}
use Rattle.format_traits.specs.Rooms.{room_of_act, room_of_needle, room_from}

length-concat-append : (xs ys : List (List ℕ)) → length (concat (xs ++ ys)) ≡ length (concat xs) + length (concat ys)
length-concat-append [] ys = omega arith
length-concat-append (x ∷ xs) ys = grind (arith, nat_tests, length-append, (length-concat-append xs ys))

length-stitch : (m : Point) → length (pec_stitch_record m) ≤ 4
length-stitch m = grind (arith, nat_tests)

length-jumps : (m : Point) (n done count : ℕ) → length (concat (map pec_jump_record (part_moves_from m n done count))) ≡ 4 * count
length-jumps m n done zero = refl
length-jumps m n done (suc count) = omega (arith, length-jumps m n (done + 1) count)

needle_length : (loose float : Bool) (m : Point)
    → length (concat (needle_records pec_encoding pec_write_limits loose float m)) ≤ 4 * room_of_needle LIMIT loose float m
needle_length true float m = grind (arith, nat_tests, length-concat-append, length-jumps, loose_room)
needle_length false true m = grind (arith, nat_tests, length-concat-append, length-jumps)
needle_length false false m =
    omega (arith, length-stitch m, length-append (pec_stitch_record m) [])

-- the records of an act take at most four bytes for each command of its room
act_length : (before : EncoderState) (a : Act)
    → length (concat (records_of_act pec_encoding pec_write_limits before a)) ≤ 4 * room_of_act LIMIT before.loose before.place a
act_length before (act.Needle p float) = needle_length before.loose float (move_between before.place p)
act_length before act.Trim = omega arith
act_length before act.Stop = omega arith

-- and so do those of all acts
pub records_length : (before : EncoderState) (acts : List NumberedAct)
    → length (concat (records_of_acts_from pec_encoding pec_write_limits before acts)) ≤ 4 * room_from LIMIT before.loose before.place acts
records_length before [] = omega arith
records_length before (a ∷ rest) =
    grind (arith, nat_tests, length-concat-append, a.act, act_length, (records_length (encoder_state_after LIMIT before a.act) rest))

-- one thumbnail more
pub thumbnail_more : (start out more : List ℕ) (count : ℕ) → out ≡ start ++ replicate (THUMBNAIL_LENGTH * count) 0
    → more ≡ out ++ replicate THUMBNAIL_LENGTH 0 → more ≡ start ++ replicate (THUMBNAIL_LENGTH * (count + 1)) 0
thumbnail_more start out more count of_out of_more =
    grind (arith, nat_tests, append_assoc, (replicate-append-replicate {A = ℕ} (THUMBNAIL_LENGTH * count) THUMBNAIL_LENGTH 0))

-- the records of all acts, and the end
pub body_put : (d : DesignValue) (commands : List Command) (out middle new : List ℕ) (state : EncoderState)
    → commands ≡ d.commands → AppendsRecords pec_encoding pec_write_limits (acts_along commands) out (Ok state) middle
    → new ≡ middle ++ 255 ∷ [] → AppendsBody d out (Ok state.stops) new
body_put d commands out middle new state of_commands puts of_new = grind (arith, nat_tests, append_assoc, stops_along)

-- the stops of a design that is not refused
pub body_stops : (d : DesignValue) (out new : List ℕ) (stops : ℕ) → AcceptedIsWithinLimits → KeepsLimits d
    → AppendsBody d out (Ok stops) new → stops ≤ MAX_STOPS
body_stops d out new stops h1 h2 h3 = grind (arith, nat_tests, ints)

-- and its records
pub body_short : (d : DesignValue) (out new : List ℕ) (stops : ℕ) → AcceptedIsWithinLimits → KeepsLimits d
    → AppendsBody d out (Ok stops) new → length (pec_body_of d) ≤ 4 * MAX_COMMANDS + 1
body_short d out new stops accepted limits puts = grind (arith, nat_tests, length-append, records_length, puts.0)
