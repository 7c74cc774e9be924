-- Worked values of the edits of what is sewn. Points are in tenths of a millimetre.
use Rattle.std.proofs.Common.{◌≡◌, ℕ, ℤ, pos, negsuc, true, false, [], ◌∷◌, None, refl, arith}
use Rattle.design_model.specs.declared.act.Act.TheVariants as act
use Rattle.design_model.specs.declared.command.Command.TheVariants as command
use Rattle.design_model.specs.Designs.{DesignValue}
use Rattle.design_model.specs.Lengths.{square_of}
use Rattle.sewing_edits.specs.Beans.{beaned_acts}
use Rattle.sewing_edits.specs.CarriedTrims.{are_trims_far, carried_acts}
use Rattle.sewing_edits.specs.Centres.{middle_of_needles}
use Rattle.sewing_edits.specs.EmptyBlocks.{act_blocks, needled_acts, needled_threads}
use Rattle.sewing_edits.specs.FloatCuts.{are_floats_within, cut_acts}
use Rattle.sewing_edits.specs.Merges.{are_long_enough, merged_acts, thread_ends}
use Rattle.sewing_edits.specs.Scales.{IsNearestScale, scaled_coordinate}
use Rattle.sewing_edits.proofs.Names.{Act, Point}

-- the point at those coordinates
abbrev at : ℤ → ℤ → Point
at x y = record { x = x; y = y }

-- a needle on the axis that points to the right, sewn or carried to
abbrev sewn : ℕ → Act
sewn x = act.Needle (at (pos x) (pos 0)) false

abbrev carried : ℕ → Act
carried x = act.Needle (at (pos x) (pos 0)) true

-- a float of 6.1 mm is cut at a limit of 6 mm, and one of 6 mm stays
pub known_cut : cut_acts 60 (sewn 0 ∷ carried 61 ∷ carried 121 ∷ sewn 300 ∷ act.Stop ∷ sewn 9 ∷ [])
    ≡ sewn 0 ∷ act.Trim ∷ sewn 61 ∷ carried 121 ∷ sewn 300 ∷ act.Stop ∷ sewn 9 ∷ []
unfolding square_of
known_cut = refl

pub known_floats : (are_floats_within 60 None (sewn 0 ∷ carried 60 ∷ sewn 200 ∷ []) ≡ true)
    × (are_floats_within 60 None (sewn 0 ∷ carried 61 ∷ []) ≡ false)
unfolding square_of
known_floats = (refl, refl)

-- a trim before a needle 0.5 mm away is carried over at a limit of 0.5 mm; one of 0.6 mm, and one before a stop, stay
pub known_carried : carried_acts 5 (sewn 0 ∷ act.Trim ∷ sewn 5 ∷ act.Trim ∷ sewn 11 ∷ act.Trim ∷ act.Stop ∷ sewn 11 ∷ [])
    ≡ sewn 0 ∷ carried 5 ∷ act.Trim ∷ sewn 11 ∷ act.Trim ∷ act.Stop ∷ sewn 11 ∷ []
unfolding square_of
known_carried = refl

pub known_trims : (are_trims_far 5 None (sewn 0 ∷ act.Trim ∷ sewn 6 ∷ act.Trim ∷ act.Stop ∷ []) ≡ true)
    × (are_trims_far 5 None (sewn 0 ∷ act.Trim ∷ sewn 5 ∷ []) ≡ false)
unfolding square_of
known_trims = (refl, refl)

-- needles nearer than 0.3 mm to the kept one go, but for the last of a thread
pub known_merged : merged_acts 3 (sewn 0 ∷ sewn 2 ∷ sewn 4 ∷ sewn 7 ∷ sewn 8 ∷ act.Trim ∷ sewn 9 ∷ [])
    ≡ sewn 0 ∷ sewn 4 ∷ sewn 7 ∷ sewn 8 ∷ act.Trim ∷ sewn 9 ∷ []
unfolding square_of
known_merged = refl

pub known_long_enough : (are_long_enough 3 None (sewn 0 ∷ sewn 3 ∷ sewn 4 ∷ act.Trim ∷ []) ≡ true)
    × (are_long_enough 3 None (sewn 0 ∷ sewn 2 ∷ sewn 9 ∷ []) ≡ false)
unfolding square_of
known_long_enough = (refl, refl)

pub known_ends : thread_ends None (sewn 0 ∷ sewn 2 ∷ sewn 4 ∷ act.Trim ∷ sewn 9 ∷ act.Stop ∷ sewn 1 ∷ sewn 3 ∷ [])
    ≡ sewn 0 ∷ sewn 4 ∷ act.Trim ∷ sewn 9 ∷ act.Stop ∷ sewn 1 ∷ sewn 3 ∷ []
known_ends = refl

-- a stitch is sewn three times or five times; a float and the first needle of a thread are not repeated
pub known_beaned : (beaned_acts 1 (sewn 0 ∷ sewn 10 ∷ carried 20 ∷ act.Trim ∷ sewn 5 ∷ [])
    ≡ sewn 0 ∷ sewn 10 ∷ sewn 0 ∷ sewn 10 ∷ carried 20 ∷ act.Trim ∷ sewn 5 ∷ [])
    × (beaned_acts 2 (sewn 0 ∷ sewn 10 ∷ []) ≡ sewn 0 ∷ sewn 10 ∷ sewn 0 ∷ sewn 10 ∷ sewn 0 ∷ sewn 10 ∷ [])
known_beaned = (refl, refl)

-- 150 hundredths of -3 are -4.5, which is rounded to -5; 50 of 1 and of -1 are rounded away from 0; 33 of 100 are 33
pub known_scaled : (scaled_coordinate 150 (negsuc 2) ≡ negsuc 4) × (scaled_coordinate 50 (pos 1) ≡ pos 1)
    × (scaled_coordinate 50 (negsuc 0) ≡ negsuc 0) × (scaled_coordinate 33 (pos 100) ≡ pos 33)
    × (scaled_coordinate 49 (negsuc 0) ≡ pos 0)
known_scaled = (refl, refl, refl, refl, refl)

-- a scaled coordinate is neither too small, nor too large, nor on the other side
pub known_too_small : IsNearestScale 100 (pos 7) (pos 6) → ⊥
known_too_small is = omega (arith, is.least)

pub known_too_large : IsNearestScale 100 (pos 7) (pos 8) → ⊥
known_too_large is = omega (arith, is.most)

pub known_other_side : IsNearestScale 100 (pos 7) (negsuc 6) → ⊥
known_other_side is = never is.sign
  where
    never : negsuc 6 ≡ pos 7 → ⊥
    never same = cc

-- empty blocks at the beginning, in the middle and at the end go
pub known_needled : (needled_acts (act.Stop ∷ sewn 0 ∷ act.Trim ∷ act.Stop ∷ act.Stop ∷ sewn 1 ∷ act.Stop ∷ [])
    ≡ sewn 0 ∷ act.Trim ∷ act.Stop ∷ sewn 1 ∷ [])
    × (needled_acts (act.Stop ∷ act.Stop ∷ []) ≡ [])
known_needled = (refl, refl)

pub known_blocks : act_blocks (sewn 0 ∷ act.Stop ∷ act.Stop ∷ act.Trim ∷ sewn 1 ∷ [])
    ≡ (sewn 0 ∷ []) ∷ [] ∷ (act.Trim ∷ sewn 1 ∷ []) ∷ []
known_blocks = refl

-- a design whose second and fourth blocks have a needle, with its first three threads stored
abbrev design : DesignValue
design = record {
  label = [];
  threads = 7 ∷ 9 ∷ 11 ∷ [];
  commands =
      command.Stop
      ∷ command.Stitch (at (pos 3) (negsuc 7))
      ∷ command.Stop
      ∷ command.Stop
      ∷ command.Stitch (at (pos 6) (pos 1))
      ∷ [];
}

-- its needles have the threads 9, and 4 by the number of the block; its middle is rounded to the left and upwards
pub known_threads : needled_threads design ≡ 9 ∷ 4 ∷ []
known_threads = refl

pub known_middle : middle_of_needles design ≡ at (pos 4) (negsuc 3)
known_middle = refl
