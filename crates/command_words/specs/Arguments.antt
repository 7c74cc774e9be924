-- Arguments that represent numbers and changes.
use Rattle.std.specs.Prelude.{ℕ, ℤ, pos, negsuc, unsigned_abs, ◌&&◌, nat_le, List, [], ◌∷◌, Option, Some, None, bytes_eq, codes, option_map, ◌==◌, if◌then◌else◌}
use Rattle.design_model.specs.declared.point.Point.{Point}
use Rattle.design_edits.specs.declared.axis.Axis.TheVariants.{X, Y}
use Rattle.design_edits.specs.declared.motion.Motion.TheVariants as motion
use Rattle.design_edits.specs.declared.motion.TheConstants.{MAX_SHIFT}
use Rattle.design_model.specs.declared.whole_number.Whole.{Whole}
use Rattle.design_model.specs.declared.whole_number.Whole.TheVariants as whole
use Rattle.design_model.specs.WholeNumbers.{parsed_whole}
use Rattle.command_words.specs.declared.request_words.TheConstants.{MAX_SAMPLE, MAX_SIDE}
use Rattle.command_words.specs.Changes.{Change, move, thread}
use Rattle.text_parts.specs.Parts.{split_at_byte}

-- The byte between two numbers.
abbrev pub comma : ℕ
comma = 44

-- The byte between the name of an edit and its value.
abbrev pub equals_sign : ℕ
equals_sign = 61

-- The integer of a parsed number, if its absolute value is at most `most`.
abbrev pub integer_within : ℕ → Whole → Option ℤ
integer_within most whole.NotANumber = None
integer_within most whole.Outside = None
integer_within most (whole.Value z) = if nat_le (unsigned_abs z) most then Some z else None

-- The number, if it is within bounds.
abbrev pub natural_if_within : ℕ → ℕ → ℕ → Option ℕ
natural_if_within least most n = if nat_le least n && nat_le n most then Some n else None

-- The natural number of a parsed number, if it is within bounds.
abbrev pub natural_within : ℕ → ℕ → Whole → Option ℕ
natural_within least most whole.NotANumber = None
natural_within least most whole.Outside = None
natural_within least most (whole.Value (pos n)) = natural_if_within least most n
natural_within least most (whole.Value (negsuc n)) = None

-- The side of a hoop that an argument represents, from 1 to MAX_SIDE.
abbrev pub hoop_side : List ℕ → Option ℕ
hoop_side word = natural_within 1 MAX_SIDE (parsed_whole word)

-- The number of a sample drawing that an argument represents, from 1 to MAX_SAMPLE.
abbrev pub sample_number : List ℕ → Option ℕ
sample_number word = natural_within 1 MAX_SAMPLE (parsed_whole word)

-- The point with two coordinates, if there are both.
abbrev pub point_if_both : Option ℤ → Option ℤ → Option Point
point_if_both (Some x) (Some y) = Some (record { x = x; y = y })
point_if_both None y = None
point_if_both (Some x) None = None

-- The point by the numbers before and after a comma, each at most `most` in absolute value.
abbrev pub point_within : ℕ → Option (List ℕ × List ℕ) → Option Point
point_within most None = None
point_within most (Some (x, y)) = point_if_both (integer_within most (parsed_whole x))
    (integer_within most (parsed_whole y))

-- The shift by the numbers before and after a comma, each at most MAX_SHIFT in absolute value.
abbrev pub parsed_shift : Option (List ℕ × List ℕ) → Option Change
parsed_shift parts = option_map (λ by. move (motion.Shift by.x by.y)) (point_within MAX_SHIFT parts)

-- The turn by a number of quarters, if there is one.
abbrev pub turn_if_some : Option ℕ → Option Change
turn_if_some None = None
turn_if_some (Some quarters) = Some (move (motion.Turn quarters))

-- The mirroring of x or of y.
abbrev pub parsed_mirror : List ℕ → Option Change
parsed_mirror value =
    if bytes_eq value (codes "x") then Some (move (motion.Mirror X))
    else (if bytes_eq value (codes "y") then Some (move (motion.Mirror Y))
    else None)

-- The change of the thread of a block, if there are both numbers.
abbrev pub thread_if_both : Option ℕ → Option ℕ → Option Change
thread_if_both (Some place) (Some number) = Some (thread place number)
thread_if_both None number = None
thread_if_both (Some place) None = None

-- The change of the thread of a block, by the numbers before and after a comma. Blocks count from 1
-- to 255, threads from 0 to 255.
abbrev pub parsed_block_thread : Option (List ℕ × List ℕ) → Option Change
parsed_block_thread None = None
parsed_block_thread (Some (place, number)) = thread_if_both
    (natural_within 1 255 (parsed_whole place))
    (natural_within 0 255 (parsed_whole number))

-- The change of an edit with this name and this value. A turn has 0 to 3 quarters.
abbrev pub parsed_named_edit : List ℕ → List ℕ → Option Change
parsed_named_edit name value =
    if bytes_eq name (codes "shift") then parsed_shift (split_at_byte comma value)
    else (if bytes_eq name (codes "turn") then turn_if_some
    (natural_within 0 3 (parsed_whole value))
    else (if bytes_eq name (codes "mirror") then parsed_mirror value
    else (if bytes_eq name (codes "thread") then parsed_block_thread (split_at_byte comma value)
    else None)))

-- The change of an edit, given the parts before and after the equals sign.
abbrev pub parsed_edit_parts : Option (List ℕ × List ℕ) → Option Change
parsed_edit_parts None = None
parsed_edit_parts (Some (name, value)) = parsed_named_edit name value

-- The change that an argument represents: `shift=DX,DY`, `turn=Q`, `mirror=x`, `mirror=y` or
-- `thread=P,T`.
abbrev pub parsed_edit : List ℕ → Option Change
parsed_edit word = parsed_edit_parts (split_at_byte equals_sign word)

-- The list of edits with one more in front, if both exist.
abbrev pub with_first_edit : {E : Type 0} → Option E → Option (List E) → Option (List E)
with_first_edit (Some first) (Some later) = Some (first ∷ later)
with_first_edit None later = None
with_first_edit (Some first) None = None

-- What arguments represent, if each of them represents something.
abbrev pub all_parsed : {E : Type 0} → (List ℕ → Option E) → List (List ℕ) → Option (List E)
all_parsed parsed [] = Some []
all_parsed parsed (word ∷ words) = with_first_edit (parsed word) (all_parsed parsed words)

-- The changes that arguments represent, if each of them is an edit.
abbrev pub parsed_edits : List (List ℕ) → Option (List Change)
parsed_edits words = all_parsed parsed_edit words
