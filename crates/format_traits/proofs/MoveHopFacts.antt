-- Worked values of hops, parts, rooms and refusals.
use Rattle.std.proofs.Common.{◌≡◌, ℕ, ◌+◌, ℤ, pos, negsuc, Bool, true, false, List, [], ◌∷◌, map, replicate, Some, None, refl, le_of_eq, lit≤}
use Rattle.format_traits.proofs.Names.{NumberedAct, origin, WriteLimits, EncoderState, label_field, label_in, printable_byte, IsPlain, are_plain_from, first_refusal, refusal_of_act, room_of, numbered, room_of_act, room_of_loose, room_of_needle}
use Rattle.design_model.specs.declared.act.Act.TheVariants.{Needle, Trim, Stop}
use Rattle.design_model.specs.declared.point.Point.{Point}
use Rattle.design_model.specs.declared.command.Command.TheVariants as command
use Rattle.format_traits.specs.declared.fault.WriteFault.TheVariants as fault
use Rattle.format_traits.specs.MoveHops.{hops_of}

abbrev pub point : ℤ → ℤ → Point
point x y = record { x = x; y = y }

-- a move of 121 takes one hop of at most 121, a move of 122 takes two, and no move takes none
pub known_hops_of : (hops_of 121 (point (negsuc 120) (pos 5)) ≡ 1)
    × (hops_of 121 (point (pos 5) (negsuc 121)) ≡ 2)
    × (hops_of 121 (point (pos 0) (pos 0)) ≡ 0)
known_hops_of = (refl, refl, refl)

-- a needle act of the command with that number
abbrev pub needle : ℕ → ℤ → Bool → NumberedAct
needle number x float = numbered number (Needle (point x (pos 0)) float)

-- three hops to a loose needle take five, a float of no length two, a trim four
pub known_rooms : room_of 121 (needle 1 (pos 300) false ∷ needle 2 (pos 300) true ∷ needle 3 (pos 310) false
    ∷ numbered 4 Trim ∷ numbered 5 Stop ∷ needle 6 (pos 320) false ∷ []) ≡ 5 + 2 + 1 + 4 + 1 + 2
known_rooms = refl

-- a loose needle of up to two hops takes one more, of three and more two more
pub known_loose_rooms : (map room_of_loose (0 ∷ 1 ∷ 2 ∷ 3 ∷ 4 ∷ 10 ∷ []) ≡ 1 ∷ 2 ∷ 3 ∷ 5 ∷ 6 ∷ 12 ∷ [])
    -- a float of no hop or one takes two, of more hops one more; any other needle takes one
    × (map (λ x. room_of_needle 121 false true (point x (pos 0)))
    (pos 0 ∷ pos 121 ∷ pos 122 ∷ negsuc 362 ∷ pos 364 ∷ []) ≡ 2 ∷ 2 ∷ 3 ∷ 4 ∷ 5 ∷ [])
known_loose_rooms = (refl, refl)

pub known_room_of_needle : (room_of_needle 121 false false (point (pos 121) (pos 0)) ≡ 1)
    -- a loose needle has the room of one, float or not; a trim takes four and a stop one
    × (room_of_needle 121 true true (point (pos 0) (pos 200)) ≡ 3)
known_room_of_needle = (refl, refl)

pub known_act_rooms : map (room_of_act 121 false (point (pos 9) (pos 9))) (Trim ∷ Stop ∷ []) ≡ 4 ∷ 1 ∷ []
known_act_rooms = refl

-- a format with the limit 121, at most three jumps to a float, and one stop
abbrev pub narrow : WriteLimits
narrow = record { limit = 121; float_hops = Some 3; stops = Some 1 }

-- a loose needle may lie anywhere, a stitch within the limit, a float within three hops
pub known_first_refusal : (first_refusal narrow (needle 1 (pos 999) false ∷ needle 2 (pos 1120) false
    ∷ needle 4 (pos 1483) true ∷ numbered 5 Stop ∷ []) ≡ None)
    -- the first refusal decides
    × (first_refusal narrow (needle 1 (pos 999) false ∷ needle 2 (pos 1121) false
    ∷ needle 4 (pos 1485) true ∷ []) ≡ Some (fault.StitchTooLong 2))
    × (first_refusal narrow (needle 1 (pos 999) false ∷ needle 2 (pos 1120) false
    ∷ needle 4 (pos 1484) true ∷ []) ≡ Some (fault.FloatTooLong 4))
    × (first_refusal narrow (numbered 3 Stop ∷ numbered 5 Stop ∷ []) ≡ Some (fault.TooManyStops 5))
known_first_refusal = (refl, refl, refl, refl)

-- after a needle at the origin, one stop, and acts of that room
abbrev pub crowded : ℕ → EncoderState
crowded room = record { loose = false; place = point (pos 0) (pos 0); stops = 1; room = room }

-- the room of all acts is at most 1,000,000
pub known_refusal_of_act : (refusal_of_act narrow (crowded 999999) (needle 7 (pos 121) false) ≡ None)
    × (refusal_of_act narrow (crowded 1000000) (needle 7 (pos 121) false) ≡ Some (fault.TooLong 7))
    × (refusal_of_act narrow (crowded 999997) (numbered 7 Trim) ≡ Some (fault.TooLong 7))
    -- the refusal of an act by itself comes before that by the room
    × (refusal_of_act narrow (crowded 1000000) (needle 7 (pos 122) false) ≡ Some (fault.StitchTooLong 7))
    × (refusal_of_act narrow (crowded 1000000) (needle 7 (pos 364) true) ≡ Some (fault.FloatTooLong 7))
    × (refusal_of_act narrow (crowded 1000000) (numbered 7 Stop) ≡ Some (fault.TooManyStops 7))
known_refusal_of_act = (refl, refl, refl, refl, refl, refl)

-- plain: needles within the limit but for loose ones, which lie anywhere, and no float
abbrev are_plain : List NumberedAct → Bool
are_plain acts = are_plain_from 121 true origin acts

pub known_plain : map are_plain ((needle 1 (pos 999) false ∷ needle 2 (pos 1120) false ∷ numbered 3 Trim ∷ needle 4 (pos 9) false
    ∷ numbered 5 Stop ∷ needle 6 (pos 999) false ∷ []) ∷ (needle 1 (pos 999) false ∷ needle 2 (pos 1121) false ∷ [])
    ∷ (needle 1 (pos 9) false ∷ needle 3 (pos 9) true ∷ []) ∷ []) ≡ true ∷ false ∷ false ∷ []
known_plain = refl

-- 254 stops may be all
pub known_plain_stops : IsPlain 121 (record { label = []; threads = []; commands = replicate 254 command.Stop })
known_plain_stops = record { needles = refl; stops = le_of_eq refl; room = lit≤ tt }

-- a label field: filled with spaces, read without them, and strange bytes read as question marks
pub known_label_in : (label_in (label_field (65 ∷ 32 ∷ 66 ∷ [])) ≡ 65 ∷ 32 ∷ 66 ∷ [])
    × (label_in (9 ∷ 126 ∷ 127 ∷ 32 ∷ []) ≡ 63 ∷ 126 ∷ 63 ∷ [])
    × (label_in (32 ∷ 32 ∷ []) ≡ [])
known_label_in = (refl, refl, refl)

-- the first and the last byte that a label may hold, and those next to them
pub known_shown : map printable_byte (31 ∷ 32 ∷ 126 ∷ 127 ∷ 255 ∷ []) ≡ 63 ∷ 32 ∷ 126 ∷ 63 ∷ 63 ∷ []
known_shown = refl
