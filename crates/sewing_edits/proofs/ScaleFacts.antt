-- Scaled designs, beans and empty blocks: what the laws state, and what results exclude. Points are in tenths of a millimetre.
use Rattle.std.proofs.Common.{◌≡◌, ◌≤◌, ◌+◌, ◌*◌, ◌∙◌, ℕ, ℤ, pos, negsuc, true, false, List, [], ◌∷◌, None, Some, Ok, Err, Contains, unsigned_abs, refl, arith, ap, subst, sym, true≢false}
use Rattle.design_model.specs.declared.act.Act.TheVariants as act
use Rattle.design_model.specs.declared.command.Command.TheVariants as command
use Rattle.design_model.specs.Designs.{DesignValue}
use Rattle.sewing_edits.specs.Beans.{BeanKeepsOrder, BeanKeepsPoints, beaned_acts}
use Rattle.sewing_edits.specs.EmptyBlockSteps.{needled_from, stop_if}
use Rattle.sewing_edits.specs.EmptyBlocks.{NeedledBlocksStay, act_blocks}
use Rattle.sewing_edits.specs.ScaleSteps.{ScalesCommands}
use Rattle.sewing_edits.specs.Scales.{IsScaleResult, ScalesToNearest, scaled, scaled_coordinate}
use Rattle.sewing_edits.specs.declared.scales.ScaleFault.TheVariants as fault
use Rattle.sewing_edits.proofs.Names.{Act, Point, act_point, are_in_order, filter_map}

-- the point at those coordinates
abbrev at : ℤ → ℤ → Point
at x y = record { x = x; y = y }

-- a stitch, a jump, a trim and a stop, by 150 hundredths: 3 is rounded from 4.5 to 5, and -7 from -10.5 to -11
abbrev design : DesignValue
design = record {
  label = 65 ∷ [];
  threads = 9 ∷ [];
  commands = command.Stitch (at (pos 3) (negsuc 6)) ∷ command.Jump (at (pos 20) (pos 0)) ∷ command.Trim ∷ command.Stop ∷ [];
}

abbrev larger : DesignValue
larger = record {
  label = 65 ∷ [];
  threads = 9 ∷ [];
  commands = command.Stitch (at (pos 5) (negsuc 10)) ∷ command.Jump (at (pos 30) (pos 0)) ∷ command.Trim ∷ command.Stop ∷ [];
}

pub known_scaled : scaled 150 design ≡ larger
known_scaled = refl

-- the result is the scaled design, and a refusal has the number of a command out of range
pub known_result : (new : DesignValue) → IsScaleResult 150 design (Ok new) → new ≡ larger
known_result new is = is.1

no_range : (number : ℕ) → None ≡ Some number → ⊥
no_range number is = cc

pub known_in_range : (number : ℕ) → IsScaleResult 150 design (Err (fault.Range number)) → ⊥
known_in_range number is = no_range number is

-- at 10000 hundredths the jump, at 2000, is in range, and at 200000 the second command isn't
pub known_out_of_range : (new : DesignValue) (number : ℕ)
    → (IsScaleResult 200000 design (Ok new) → ⊥) × (IsScaleResult 200000 design (Err (fault.Range number)) → Some 2 ≡ Some number)
known_out_of_range new number = (λ is. no_range 2 (sym is.0), λ is. is)

-- scaled commands are added to a design without any
pub known_added : (old new : DesignValue) (n number : ℕ)
    → (ScalesCommands {T = ℕ} 150 design.commands old (Ok n) new
    → new ≡ record { label = old.label; threads = old.threads; commands = larger.commands })
    × (ScalesCommands {T = ℕ} 150 design.commands old (Err (fault.Range number)) new → ⊥)
    × (ScalesCommands {T = ℕ} 200000 design.commands old (Ok n) new → ⊥)
    × (ScalesCommands {T = ℕ} 200000 design.commands old (Err (fault.Range number)) new → Some 2 ≡ Some number)
known_added old new n number = (λ adds. adds.1, λ is. no_range number is, λ adds. no_range 2 (sym adds.0), λ is. is)

-- a coordinate is scaled to within half a tenth; at 100 hundredths none of size 7 becomes one of size 8
pub known_nearest : ScalesToNearest → (percent : ℕ) (z : ℤ)
    → (percent * unsigned_abs z ≤ 100 * unsigned_abs (scaled_coordinate percent z) + 50)
    × (100 * unsigned_abs (scaled_coordinate percent z) ≤ percent * unsigned_abs z + 50)
known_nearest law percent z = let is = law percent z in (is.least, is.most)

pub known_too_large : ScalesToNearest → (z : ℤ) → unsigned_abs z ≡ 7 → unsigned_abs (scaled_coordinate 100 z) ≡ 8 → ⊥
known_too_large law z seven eight = omega (arith, seven, eight, (law 100 z).most)

-- a needle on the axis that points to the right, sewn or carried to
abbrev sewn : ℕ → Act
sewn x = act.Needle (at (pos x) (pos 0)) false

abbrev carried : ℕ → Act
carried x = act.Needle (at (pos x) (pos 0)) true

-- Beans go through the points of the acts, and through no others.
pub known_bean_points : BeanKeepsPoints → (times : ℕ) (acts : List Act) (p : Point)
    → Contains (filter_map act_point acts) p → Contains (filter_map act_point (beaned_acts times acts)) p
known_bean_points law times acts p inside = (law times acts p).1 inside

pub known_other_point : BeanKeepsPoints → (times : ℕ) (acts : List Act) (p : Point) → filter_map act_point acts ≡ []
    → Contains (filter_map act_point (beaned_acts times acts)) p → ⊥
known_other_point law times acts p none inside =
    empty (subst (λ (points : List Point). Contains points p) none ((law times acts p).0 inside))
  where
    empty : Contains [] p → ⊥
    empty is = omega (arith, is.1)

-- a float is no bean, a stitch is sewn three times, and acts in order don't become a float at the beginning
pub known_bean_order : BeanKeepsOrder
    → are_in_order true (sewn 0 ∷ sewn 10 ∷ sewn 0 ∷ sewn 10 ∷ carried 20 ∷ act.Trim ∷ sewn 5 ∷ act.Stop ∷ []) ≡ true
known_bean_order law = law 1 (sewn 0 ∷ sewn 10 ∷ carried 20 ∷ act.Trim ∷ sewn 5 ∷ act.Stop ∷ []) refl

pub known_bean_out_of_order : BeanKeepsOrder → (times : ℕ) (acts : List Act) → are_in_order true acts ≡ true
    → beaned_acts times acts ≡ carried 5 ∷ [] → ⊥
known_bean_out_of_order law times acts ordered is = true≢false (sym (law times acts ordered) ∙ ap (are_in_order true) is)

-- of five blocks, the two with a needle stay
pub known_needled_blocks : NeedledBlocksStay
    → act_blocks (sewn 0 ∷ act.Trim ∷ act.Stop ∷ sewn 1 ∷ []) ≡ (sewn 0 ∷ act.Trim ∷ []) ∷ (sewn 1 ∷ []) ∷ []
known_needled_blocks law =
    law (act.Stop ∷ sewn 0 ∷ act.Trim ∷ act.Stop ∷ act.Stop ∷ sewn 1 ∷ act.Stop ∷ []) (sewn 0 ∷ act.Trim ∷ []) ((sewn 1 ∷ []) ∷ []) refl

-- a stop waits for the next needle, and one after a block without a needle goes
pub known_needled_from : (needled_from false false (act.Stop ∷ sewn 0 ∷ act.Trim ∷ act.Stop ∷ act.Stop ∷ sewn 1 ∷ act.Stop ∷ [])
    ≡ sewn 0 ∷ act.Trim ∷ act.Stop ∷ sewn 1 ∷ [])
    × (needled_from false true (act.Stop ∷ act.Trim ∷ carried 1 ∷ []) ≡ act.Trim ∷ act.Stop ∷ carried 1 ∷ [])
    × (needled_from true false (sewn 1 ∷ []) ≡ act.Stop ∷ sewn 1 ∷ [])
    × (stop_if true ≡ act.Stop ∷ []) × (stop_if false ≡ [])
known_needled_from = (refl, refl, refl, refl, refl)
