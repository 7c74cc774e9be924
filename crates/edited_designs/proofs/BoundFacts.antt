-- The change that each edit is, the bounds of its numbers, and the faults that are out of memory.
use Rattle.std.proofs.Common.{◌≡◌, pos, true, false, List, [], ◌∷◌, Ok, Err, map, refl, arith, length}
use Rattle.design_edits.specs.declared.axis.Axis.TheVariants as axis
use Rattle.design_edits.specs.declared.motion.Motion.TheVariants as motion
use Rattle.edited_designs.specs.DesignChanges.{bared, beaned, carried, centred, cut, merged, moved, needled, pictured, scaled, threaded, tied, named}
use Rattle.edited_designs.specs.declared.design_edit.DesignEdit.TheVariants as edit
use Rattle.edited_designs.specs.declared.design_fault.DesignFault.TheVariants as fault
use Rattle.design_model.specs.declared.act.Act.{Act}
use Rattle.design_rewrites.specs.Rewrites.{design_with_acts}
use Rattle.edited_designs.specs.EditedDesigns.{given_acts}
use Rattle.step_splitter.specs.Refits.{commands_of_acts}
use Rattle.edited_designs.proofs.Names.{nat_tests, DesignValue, IsDesignEdit, bad_design_edit_is_out_of_memory, design_change}

pub known_changes : map design_change
    (edit.Move (motion.Mirror axis.Y) ∷ edit.Thread 3 9 ∷ edit.Tie 10 ∷ edit.Bare ∷ edit.Centre ∷ edit.Cut 60
    ∷ edit.Carry 5 ∷ edit.Merge 3 ∷ edit.Bean 2 ∷ edit.Scale 150 ∷ edit.DropEmpty ∷ edit.Thumbnails ∷ [])
    ≡ moved (motion.Mirror axis.Y) ∷ threaded 3 9 ∷ tied 10 ∷ bared ∷ centred ∷ cut 60 ∷ carried 5 ∷ merged 3 ∷ beaned 2 ∷ scaled 150
    ∷ needled ∷ pictured ∷ []
known_changes = refl

-- a tie has a length from 8 to 18, a block is one of 255, lengths are at most 60000, and a scale at most 1000
pub known_ties : (IsDesignEdit (edit.Tie 7) → ⊥) × (IsDesignEdit (edit.Tie 19) → ⊥)
known_ties = (λ is. omega (arith, is.0), λ is. omega (arith, is.1))

pub known_threads : (IsDesignEdit (edit.Thread 0 9) → ⊥) × (IsDesignEdit (edit.Thread 256 9) → ⊥)
known_threads = (λ is. omega (arith, is.0), λ is. omega (arith, is.1))

pub known_lengths : (IsDesignEdit (edit.Cut 60001) → ⊥) × (IsDesignEdit (edit.Carry 60001) → ⊥) × (IsDesignEdit (edit.Merge 60001) → ⊥)
    × (IsDesignEdit (edit.Scale 1001) → ⊥)
known_lengths = (λ is. omega (arith, is), λ is. omega (arith, is), λ is. omega (arith, is), λ is. omega (arith, is))

-- a turn is by at most three quarters, and a shift by at most 60000 on each axis
pub known_motions : (IsDesignEdit (edit.Move (motion.Turn 4)) → ⊥) × (IsDesignEdit (edit.Move (motion.Shift (pos 60001) (pos 0))) → ⊥)
    × (IsDesignEdit (edit.Move (motion.Shift (pos 0) (pos 60001))) → ⊥)
known_motions = (λ is. omega (arith, is), λ is. omega (arith, is.0), λ is. omega (arith, is.1))

-- the edits that have no number
pub known_others : IsDesignEdit edit.Bare × IsDesignEdit edit.Centre × IsDesignEdit edit.DropEmpty × IsDesignEdit edit.Thumbnails
    × IsDesignEdit (edit.Bean 9)
known_others = (tt, tt, tt, tt, tt)

-- a label is renamed to its bytes, of which there are at most 16
pub known_name : (label : _) → (design_change (edit.Name label) ≡ named label.now)
    × (IsDesignEdit (edit.Name label) → length label.now ≡ 17 → ⊥)
known_name label = (refl, λ is long. omega (arith, long, is))

pub known_faults : map bad_design_edit_is_out_of_memory
    (record { number = 1; fault = fault.Range 12 } ∷ record { number = 2; fault = fault.NoPlace 4 3 }
    ∷ record { number = 3; fault = fault.TooMany } ∷ record { number = 4; fault = fault.Memory } ∷ [])
    ≡ false ∷ false ∷ false ∷ true ∷ []
known_faults = refl

-- a design has at most a million commands
pub known_given : (d : DesignValue) (acts : List Act)
    → (length (commands_of_acts acts) ≡ 1000000 → given_acts d acts ≡ Ok (design_with_acts d acts))
    × (length (commands_of_acts acts) ≡ 1000001 → given_acts d acts ≡ Err fault.TooMany)
known_given d acts = (λ full. grind (arith, nat_tests, full), λ over. grind (arith, nat_tests, over))
