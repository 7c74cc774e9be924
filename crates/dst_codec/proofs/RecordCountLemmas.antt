-- A record has three bytes, and an act at most as many records as its room.
use Rattle.std.proofs.Common.{◌≡◌, ℕ, zero, suc, ◌+◌, ◌*◌, ◌≤◌, max, Bool, true, false, List, [], ◌∷◌, length, map, ◌==◌, refl, ap, arith, length-append, if◌then◌else◌, nat_le}
use Rattle.std.proofs.lemmas.List.Folds.{concat-append}
use Rattle.dst_codec.proofs.Names.{nat_tests, concat, Act, NumberedAct, Point, move_between, EncoderState, encoder_state_after, LIMIT, dst_jump_record, dst_write_limits, dst_encoding, length-map, part_moves_from, loose_room}
use Rattle.design_model.specs.declared.act.Act.TheVariants as act
use Rattle.format_traits.specs.MoveHops.{hops_of}
use Rattle.format_traits.specs.Rooms.{room_of_act, room_of_needle, room_from}
use Rattle.record_formats.specs.RecordEncodings.{records_of_acts_from, records_of_act, needle_records, hop_records, stitched_hop_records}

-- all bytes of records, three for each
abbrev AreTriples : List (List ℕ) → Type 0
AreTriples records = length (concat records) ≡ 3 * length records

jumps : (m : Point) (n done count : ℕ) → AreTriples (map dst_jump_record (part_moves_from m n done count))
jumps m n done zero = refl
jumps m n done (suc count) = omega (arith, jumps m n (done + 1) count)

-- the records of a float, whether its jumps are three or not
float_triples : (three : Bool) (count : ℕ) (m : Point)
    → AreTriples (if three then stitched_hop_records dst_encoding count m else hop_records dst_encoding count m)
float_triples true count m = grind (arith, nat_tests, concat-append, length-append, map, jumps)
float_triples false count m = grind (arith, nat_tests, concat-append, length-append, map, jumps)

needle_triples : (loose float : Bool) (m : Point) → AreTriples (needle_records dst_encoding dst_write_limits loose float m)
needle_triples true float m = grind (arith, nat_tests, concat-append, length-append, map, jumps)
needle_triples false true m = float_triples (max 1 (hops_of LIMIT m) == 3) (max 1 (hops_of LIMIT m)) m
needle_triples false false m = refl

act_triples : (s : EncoderState) (a : Act) → AreTriples (records_of_act dst_encoding dst_write_limits s a)
act_triples s (act.Needle p float) = needle_triples s.loose float (move_between s.place p)
act_triples s act.Trim = refl
act_triples s act.Stop = refl

-- the records of acts have three bytes each
pub records_triples : (s : EncoderState) (acts : List NumberedAct)
    → length (concat (records_of_acts_from dst_encoding dst_write_limits s acts))
    ≡ 3 * length (records_of_acts_from dst_encoding dst_write_limits s acts)
records_triples s [] = refl
records_triples s (a ∷ rest) =
    let after = encoder_state_after LIMIT s a.act in
    grind (arith, nat_tests, concat-append, length-append, (act_triples s a.act), (records_triples after rest))

length-part_moves_from : (m : Point) (n done count : ℕ) → length (part_moves_from m n done count) ≡ count
length-part_moves_from m n done zero = refl
length-part_moves_from m n done (suc count) = ap suc (length-part_moves_from m n (done + 1) count)

length-jumps : (m : Point) (n count : ℕ) → length (map dst_jump_record (part_moves_from m n 0 count)) ≡ count
length-jumps m n count = grind (arith, nat_tests, length-map, length-part_moves_from)

length-hop_records : (count : ℕ) (m : Point) → length (hop_records dst_encoding count m) ≡ count + 1
length-hop_records count m = grind (arith, nat_tests, length-append, length-jumps)

float_small : (three : Bool) (count : ℕ) (m : Point)
    → length (if three then stitched_hop_records dst_encoding count m else hop_records dst_encoding count m) ≤ max 1 count + 1
float_small three count m = grind (arith, nat_tests, length-append, length-jumps)

needle_small : (loose float : Bool) (m : Point)
    → length (needle_records dst_encoding dst_write_limits loose float m) ≤ room_of_needle LIMIT loose float m
needle_small true float m =
    omega (arith, length-hop_records (hops_of LIMIT m) m, loose_room (nat_le (hops_of LIMIT m) 2) (hops_of LIMIT m))
needle_small false true m = omega (arith, float_small (max 1 (hops_of LIMIT m) == 3) (max 1 (hops_of LIMIT m)) m)
needle_small false false m = omega arith

act_small : (s : EncoderState) (a : Act) → length (records_of_act dst_encoding dst_write_limits s a) ≤ room_of_act LIMIT s.loose s.place a
act_small s (act.Needle p float) = needle_small s.loose float (move_between s.place p)
act_small s act.Trim = omega arith
act_small s act.Stop = omega arith

-- acts have at most as many records as their room
pub records_small : (s : EncoderState) (acts : List NumberedAct)
    → length (records_of_acts_from dst_encoding dst_write_limits s acts) ≤ room_from LIMIT s.loose s.place acts
records_small s [] = omega arith
records_small s (a ∷ rest) =
    grind (arith, nat_tests, length-append, (act_small s a.act), (records_small (encoder_state_after LIMIT s a.act) rest))
