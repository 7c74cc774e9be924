-- The result of each edit of a design.
use Rattle.std.specs.Prelude.{ℕ, ◌-◌, Bool, true, false, neg_ℤ, nat_le, nat_lt, List, length, Option, Some, None, Result, Ok, Err, if◌then◌else◌}
use Rattle.design_edits.specs.Colours.{colour_place_count, recoloured}
use Rattle.design_edits.specs.declared.motion.Motion.{Motion}
use Rattle.design_edits.specs.declared.motion.Motion.TheVariants as motion
use Rattle.design_edits.specs.Moves.{first_out_of_range, mirrored, shifted, turned}
use Rattle.design_model.specs.declared.act.Act.{Act}
use Rattle.design_model.specs.declared.design.TheConstants.{MAX_COMMANDS}
use Rattle.design_model.specs.Acts.{acts_of, acts_without_numbers}
use Rattle.design_model.specs.Designs.{DesignValue, with_label}
use Rattle.design_rewrites.specs.Rewrites.{design_with_acts}
use Rattle.edited_designs.specs.declared.design_fault.DesignFault.{DesignFault}
use Rattle.edited_designs.specs.declared.design_fault.DesignFault.TheVariants as fault
use Rattle.edited_designs.specs.DesignChanges.{DesignChange, beaned, bared, carried, centred, cut, merged, moved, named, needled, pictured, scaled, threaded, tied}
use Rattle.format_traits.specs.LabelFields.{label_in}
use Rattle.sewing_edits.specs.Beans.{beaned_acts}
use Rattle.sewing_edits.specs.CarriedTrims.{carried_acts}
use Rattle.sewing_edits.specs.Centres.{middle_of_needles}
use Rattle.sewing_edits.specs.EmptyBlocks.{needled_acts, with_needled_threads}
use Rattle.sewing_edits.specs.FloatCuts.{cut_acts}
use Rattle.sewing_edits.specs.Merges.{merged_acts}
use Rattle.sewing_edits.specs.Scales.{scale_point}
use Rattle.design_edits.specs.Moves.{with_mapped_points}
use Rattle.step_splitter.specs.Refits.{commands_of_acts}
use Rattle.sewing_edits.specs.ThreadTies.{bared_acts, tied_acts}

-- A fault is out of memory.
abbrev pub design_fault_is_out_of_memory : DesignFault → Bool
design_fault_is_out_of_memory (fault.Range number) = false
design_fault_is_out_of_memory (fault.NoPlace place count) = false
design_fault_is_out_of_memory fault.TooMany = false
design_fault_is_out_of_memory fault.Memory = true

-- The moved design, or a fault for the first command whose point would be out of its range.
abbrev pub if_in_range : Option ℕ → DesignValue → Result DesignValue DesignFault
if_in_range None d = Ok d
if_in_range (Some number) d = Err (fault.Range number)

-- A design whose points were mapped, if all of them are in range.
abbrev pub mapped : DesignValue → Result DesignValue DesignFault
mapped d = if_in_range (first_out_of_range d.commands) d

-- The design after a motion.
abbrev pub moved_by : Motion → DesignValue → Result DesignValue DesignFault
moved_by (motion.Shift dx dy) d = mapped (shifted dx dy d)
moved_by (motion.Turn quarters) d = Ok (turned quarters d)
moved_by (motion.Mirror axis) d = Ok (mirrored axis d)

-- The design with another thread for a block, numbered from 1, if it has that block.
abbrev pub threaded_at : ℕ → ℕ → DesignValue → Result DesignValue DesignFault
threaded_at place number d = if nat_lt (place - 1) (colour_place_count d)
    then Ok (recoloured (place - 1) number d) else Err (fault.NoPlace place (colour_place_count d))

-- The design with other acts, if they have no more commands than a design may have.
abbrev pub given_acts : DesignValue → List Act → Result DesignValue DesignFault
given_acts d acts = if nat_le (length (commands_of_acts acts)) MAX_COMMANDS
    then Ok (design_with_acts d acts) else Err fault.TooMany

-- The acts of a design without their numbers.
abbrev pub bare_acts_of : DesignValue → List Act
bare_acts_of d = acts_without_numbers (acts_of d)

-- The design after an edit.
abbrev pub edited_design : DesignChange → DesignValue → Result DesignValue DesignFault
edited_design (moved by) d = moved_by by d
edited_design (threaded place number) d = threaded_at place number d
edited_design (tied length) d = given_acts d (tied_acts length (bare_acts_of d))
edited_design bared d = given_acts d (bared_acts (bare_acts_of d))
edited_design centred d =
    mapped (shifted (neg_ℤ (middle_of_needles d).x) (neg_ℤ (middle_of_needles d).y) d)
edited_design (cut limit) d = given_acts d (cut_acts limit (bare_acts_of d))
edited_design (carried limit) d = given_acts d (carried_acts limit (bare_acts_of d))
edited_design (merged limit) d = given_acts d (merged_acts limit (bare_acts_of d))
edited_design (beaned times) d = given_acts d (beaned_acts times (bare_acts_of d))
edited_design (scaled percent) d = mapped (with_mapped_points (scale_point percent) d)
edited_design needled d = given_acts (with_needled_threads d) (needled_acts (bare_acts_of d))
edited_design pictured d = Ok d
edited_design (named label) d = Ok (with_label d (label_in label))
