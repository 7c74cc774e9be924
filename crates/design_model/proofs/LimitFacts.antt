-- The limits of designs, in numbers, and of the whole numbers that words spell. Points are in tenths
-- of a millimetre, labels in bytes.
use Rattle.std.proofs.Common.{◌≡◌, ◌≢◌, ℕ, ◌-◌, ◌≤◌, pos, negsuc, true, false, IsTrue, List, [], ◌∷◌, length, map, All, Some, None, slice_get, refl, arith}
use Rattle.design_model.proofs.Names.{list_all, Stitch, Jump, Point, is_command_in_range, command_with_point, command_accepts_point, target_of, DesignValue, KeepsLimits, thread_of, IsLabel, IsPrintable}
use Rattle.design_model.specs.declared.command.Command.TheVariants.{Trim, Stop}
use Rattle.design_model.specs.declared.design.TheConstants.{MAX_COMMANDS, MAX_LABEL, MAX_THREADS}
use Rattle.design_model.specs.declared.point.TheConstants.{JUMP_LIMIT, NEEDLE_LIMIT}
use Rattle.design_model.specs.declared.whole_number.TheConstants.{MAX_WHOLE}
use Rattle.design_model.specs.Designs.{with_command_at, with_thread_at, without_commands}

-- how far a needle and a jump may reach on each axis
pub known_coordinate_limits : (NEEDLE_LIMIT ≡ 30000)
    × (JUMP_LIMIT ≡ 32767)
known_coordinate_limits = (refl, refl)

-- a stitch can be moved as far as a needle reaches and a jump farther, on each axis; a trim and a stop have no point
abbrev far : Point
far = record { x = pos 0; y = negsuc 29999 }

abbrev farther : Point
farther = record { x = pos 30001; y = pos 0 }

abbrev too_far : Point
too_far = record { x = pos 0; y = pos 32768 }

pub known_stitch : (map (command_accepts_point (Stitch farther)) (far ∷ farther ∷ []) ≡ true ∷ false ∷ [])
    × (map (command_accepts_point (Jump far)) (farther ∷ too_far ∷ []) ≡ true ∷ false ∷ [])
known_stitch = (refl, refl)

pub known_no_point : command_accepts_point Trim far ∷ command_accepts_point Stop far ∷ [] ≡ false ∷ false ∷ []
known_no_point = refl

-- The maximum distance of points.
pub known_ranges : (map is_command_in_range (Stitch far ∷ Stitch farther ∷ Jump farther ∷ Jump too_far ∷ Trim ∷ Stop ∷ [])
    ≡ true ∷ false ∷ true ∷ false ∷ true ∷ true ∷ [])
    -- where they lead, and where they lead once they are moved
    × (map target_of (Stitch far ∷ Jump farther ∷ Trim ∷ Stop ∷ []) ≡ Some far ∷ Some farther ∷ None ∷ None ∷ [])
    × (map (λ command. command_with_point command far) (Stitch farther ∷ Jump farther ∷ Trim ∷ Stop ∷ [])
    ≡ Stitch far ∷ Jump far ∷ Trim ∷ Stop ∷ [])
    -- the threads of blocks: two that are kept, and from 1 to 64 by their places
    × (map (thread_of (record { label = []; threads = 9 ∷ 200 ∷ []; commands = [] })) (0 ∷ 1 ∷ 2 ∷ 63 ∷ 64 ∷ [])
    ≡ 9 ∷ 200 ∷ 3 ∷ 64 ∷ 1 ∷ [])
known_ranges = (refl, refl, refl, refl)

-- The maximum numbers of a design.
pub known_full : (d : DesignValue) → IsLabel d.label → length d.threads ≤ 255 → length d.commands ≤ 1000000
    → IsTrue (list_all is_command_in_range d.commands) → KeepsLimits d
known_full d label threads count in_range = record { label = label; threads = threads; count = count; in_range = in_range }

pub known_count_limits : (MAX_COMMANDS ≡ 1000000)
    × (MAX_THREADS ≡ 255)
    × (MAX_LABEL ≡ 16)
known_count_limits = (refl, refl, refl)

-- The maximum whole number of a text.
pub known_whole : MAX_WHOLE ≡ 999999999
known_whole = refl

-- a space and a tilde are printable, and what lies next to them is not
pub known_space : IsPrintable 32
known_space = record { from_space = omega arith; to_tilde = omega arith }

pub known_tilde : IsPrintable 126
known_tilde = record { from_space = omega arith; to_tilde = omega arith }

pub known_control : IsPrintable 31 → ⊥
known_control printable = omega (arith, printable.from_space)

pub known_delete : IsPrintable 127 → ⊥
known_delete printable = omega (arith, printable.to_tilde)

-- a label has no space at its end
pub known_space_at_end : IsLabel (65 ∷ 32 ∷ []) → ⊥
known_space_at_end label = label.trimmed refl

-- all else of up to 16 such bytes is one
pub known_labels : (label : List ℕ) → length label ≤ 16 → All IsPrintable label → slice_get label (length label - 1) ≢ Some 32
    → IsLabel label
known_labels label short printable trimmed = record { short = short; printable = printable; trimmed = trimmed }

-- one thread number or one command is replaced, and the rest stays; without commands label and threads stay
abbrev design : DesignValue
design = record { label = 65 ∷ []; threads = 9 ∷ 200 ∷ 7 ∷ []; commands = Trim ∷ Stitch far ∷ Stop ∷ [] }

pub known_replaced : (with_thread_at design 1 4
    ≡ record { label = 65 ∷ []; threads = 9 ∷ 4 ∷ 7 ∷ []; commands = Trim ∷ Stitch far ∷ Stop ∷ [] })
    × (with_command_at design 1 (Jump farther)
    ≡ record { label = 65 ∷ []; threads = 9 ∷ 200 ∷ 7 ∷ []; commands = Trim ∷ Jump farther ∷ Stop ∷ [] })
    × (without_commands design ≡ record { label = 65 ∷ []; threads = 9 ∷ 200 ∷ 7 ∷ []; commands = [] })
known_replaced = (refl, refl, refl)
