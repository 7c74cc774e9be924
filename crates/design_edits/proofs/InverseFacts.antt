-- What the theorems on moves that restore a design say of one design, and what results of edits exclude.
use Rattle.std.proofs.Common.{◌≡◌, ℕ, ℤ, neg_ℤ, ◌+◌, List, [], ◌∷◌, None, Some, Ok, Err, arith}
use Rattle.design_edits.proofs.Names.{DesignValue, Axis, Recolours, colour_place_count, recoloured, FourQuarterTurnsRestore, OppositeShiftRestores, TwoMirroringsRestore, first_out_of_range, mirrored, shifted, turned, IsRecolourResult}
use Rattle.design_edits.specs.declared.edit_fault.EditFault.TheVariants as fault
use Rattle.design_edits.specs.Shifts.{IsShiftResult}

-- four turns by one quarter each, two mirrorings of one axis, and two shifts
pub known_turns : FourQuarterTurnsRestore → (d : DesignValue) → turned 1 (turned 1 (turned 1 (turned 1 d))) ≡ d
known_turns law d = law d

pub known_mirrorings : TwoMirroringsRestore → (a : Axis) (d : DesignValue) → mirrored a (mirrored a d) ≡ d
known_mirrorings law a d = law a d

pub known_shifts : OppositeShiftRestores → (dx dy : ℤ) (d : DesignValue) → shifted (neg_ℤ dx) (neg_ℤ dy) (shifted dx dy d) ≡ d
known_shifts law dx dy d = law dx dy d

-- a shift moves the design, or names the first command out of range and leaves it as it was
pub known_shifted : (dx dy : ℤ) (old new : DesignValue) (n : ℕ) → IsShiftResult {T = ℕ} dx dy old (Ok n) new
    → (first_out_of_range (shifted dx dy old).commands ≡ None) × (new ≡ shifted dx dy old)
known_shifted dx dy old new n is = (is.0, is.1)

pub known_not_shifted : (dx dy : ℤ) (old new : DesignValue) (n : ℕ) → IsShiftResult {T = ℕ} dx dy old (Err (fault.Range n)) new
    → (first_out_of_range (shifted dx dy old).commands ≡ Some n) × (new ≡ old)
known_not_shifted dx dy old new n is = (is.0, is.1)

pub known_no_place : (dx dy : ℤ) (old new : DesignValue) (n : ℕ) → IsShiftResult {T = ℕ} dx dy old (Err (fault.NoPlace n)) new → ⊥
known_no_place dx dy old new n is = is

-- a thread is set at a colour place, and elsewhere refused with the number of places
pub known_recoloured : (place thread : ℕ) (old new : DesignValue) (n : ℕ) → IsRecolourResult {T = ℕ} place thread old (Ok n) new
    → (place ≡ colour_place_count old → ⊥) × (new ≡ recoloured place thread old)
known_recoloured place thread old new n is = (λ same. omega (arith, same, is.0), is.1)

pub known_not_recoloured : (place thread : ℕ) (old new : DesignValue) (n : ℕ)
    → IsRecolourResult {T = ℕ} place thread old (Err (fault.NoPlace n)) new
    → (place + 1 ≡ colour_place_count old → ⊥) × (n ≡ colour_place_count old) × (new ≡ old)
known_not_recoloured place thread old new n is = (λ less. omega (arith, less, is.0), is.1, is.2)

pub known_range : (place thread : ℕ) (old new : DesignValue) (n : ℕ)
    → IsRecolourResult {T = ℕ} place thread old (Err (fault.Range n)) new → ⊥
known_range place thread old new n is = is

-- the other blocks keep their threads
abbrev design : List ℕ → DesignValue
design threads = record { label = []; threads = threads; commands = [] }

pub known_other_block : Recolours 1 9 (design (4 ∷ 5 ∷ 6 ∷ [])) (design (4 ∷ 9 ∷ 7 ∷ [])) → ⊥
known_other_block recolours = other (recolours 2)
  where
    other : ◌≡◌ {A = ℕ} 7 6 → ⊥
    other same = omega (arith, same)

pub known_same_block : Recolours 1 9 (design (4 ∷ 5 ∷ 6 ∷ [])) (design (4 ∷ 5 ∷ 6 ∷ [])) → ⊥
known_same_block recolours = other (recolours 1)
  where
    other : ◌≡◌ {A = ℕ} 5 9 → ⊥
    other same = omega (arith, same)
