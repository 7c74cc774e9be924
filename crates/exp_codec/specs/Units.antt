-- The units of an EXP file, as the Melco EXP format has them: two bytes for a stitch, and four
-- where the first is 80. The bytes of moves are signed. The file's y points upwards and a design's
-- downwards.
use Rattle.std.specs.Prelude.{ℕ, ◌+◌, neg_ℤ, true, false, List, [], ◌∷◌, Option, Some, None, ◌==◌, if◌then◌else◌}
use Rattle.design_model.specs.declared.point.Point.{Point}
use Rattle.record_formats.specs.declared.event.Event.{Event}
use Rattle.record_formats.specs.declared.event.Event.TheVariants as event
use Rattle.format_traits.specs.declared.fault.ReadFault.TheVariants as fault
use Rattle.record_formats.specs.Records.{Records, over, refused, next}
use Rattle.record_formats.specs.TwosComplement.{from_twos_complement}

-- The move of two bytes, in a design's axes.
abbrev pub exp_move_of : ℕ → ℕ → Point
exp_move_of a b = record { x = from_twos_complement 128 a; y = neg_ℤ (from_twos_complement 128 b) }

-- The event of a unit of four bytes, by its control byte and its move; none for an unknown control
-- byte.
abbrev pub event_of_control : ℕ → Point → Option Event
event_of_control control m =
    if control == 0x01 then Some (event.StopBy m)
    else (if control == 0x02 then Some (event.Stitch m)
    else (if control == 0x04 then Some (event.Jump m)
    else (if control == 0x80 then Some event.Trim
    else None)))

-- A unit of four bytes and the records after it; a unit without an event is refused.
abbrev pub record_or_refusal : ℕ → Option Event → (behind : Records) → Records
record_or_refusal at (Some event) behind = next at event behind
record_or_refusal at None behind = refused (fault.Control at)

-- The records from a unit on: the unit has four bytes where the first is 80, else two.
abbrev pub unit : ℕ → (a b c d : ℕ) → (behind_four behind_two : Records) → Records
unit at a b c d behind_four behind_two =
    if a == 0x80 then record_or_refusal at (event_of_control b (exp_move_of c d)) behind_four
    else next at (event.Stitch (exp_move_of a b)) behind_two

-- The records from a unit on, where fewer than four bytes are left.
abbrev pub short_unit : ℕ → (a b : ℕ) → (behind_two : Records) → Records
short_unit at a b behind_two =
    if a == 0x80 then over false else next at (event.Stitch (exp_move_of a b)) behind_two

-- The units from an offset on. The file has an end where no byte of an incomplete unit is left.
abbrev pub units_from : ℕ → List ℕ → Records
units_from at [] = over true
units_from at (a ∷ []) = over false
units_from at (a ∷ b ∷ []) = short_unit at a b (over true)
units_from at (a ∷ b ∷ c ∷ []) = short_unit at a b (over false)
units_from at (a ∷ b ∷ c ∷ d ∷ rest) =
    unit at a b c d (units_from (at + 4) rest) (units_from (at + 2) (c ∷ d ∷ rest))
