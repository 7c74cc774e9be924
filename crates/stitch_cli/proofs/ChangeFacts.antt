-- Worked values of the results of changes.
use Rattle.std.proofs.Common.{◌≡◌, ℤ, pos, negsuc, inl, inr, [], ◌∷◌, Some, Ok, Err, refl}
use Rattle.command_words.specs.Changes.{move, thread}
use Rattle.design_edits.specs.declared.axis.Axis.TheVariants.{X, Y}
use Rattle.design_edits.specs.declared.motion.Motion.TheVariants as motion
use Rattle.design_model.specs.declared.command.Command.TheVariants.{Stitch, Stop}
use Rattle.design_model.specs.declared.point.Point.{Point}
use Rattle.design_model.specs.Designs.{DesignValue, empty_design}
use Rattle.stitch_cli.specs.declared.change_faults.ChangeFault.TheVariants as reason
use Rattle.stitch_cli.specs.ChangedDesigns.{Becomes, BecomesAll, shifted_if_in_range, threaded_if_place}

abbrev place : ℤ → ℤ → Point
place x y = record { x = x; y = y }

-- Two blocks, neither of which has a stored thread number.
abbrev two_blocks : DesignValue
two_blocks = record empty_design { commands = Stitch (place (pos 0) (pos 0)) ∷ Stop ∷ Stitch (place (pos 5) (pos 0)) ∷ [] }

-- places count from 1, and the blocks before keep the threads that they had
pub known_threaded_if_place : (threaded_if_place 2 9 two_blocks ≡ Ok (record two_blocks { threads = 1 ∷ 9 ∷ [] }))
    × (threaded_if_place 3 9 two_blocks ≡ Err (reason.NoPlace 3 2))
known_threaded_if_place = (refl, refl)

-- a shift that leads a command out of range names it
pub known_moved_out : shifted_if_in_range (Some 4) two_blocks ≡ Err (reason.MovedOut 4)
known_moved_out = refl

-- a needle at that point
abbrev stitched : ℤ → ℤ → DesignValue
stitched x y = record empty_design { commands = Stitch (place x y) ∷ [] }

-- each change by itself: x to the right by 2 and y upwards by 9, a quarter clockwise, and the sign of y
pub known_shifted : Becomes 121 (move (motion.Shift (pos 2) (negsuc 8))) (stitched (pos 30) (pos 5)) (Ok (stitched (pos 32) (negsuc 3)))
known_shifted = refl

pub known_turned : Becomes 121 (move (motion.Turn 1)) (stitched (pos 30) (pos 5)) (Ok (stitched (negsuc 4) (pos 30)))
known_turned = refl

pub known_mirrored : Becomes 121 (move (motion.Mirror Y)) (stitched (pos 30) (pos 5)) (Ok (stitched (pos 30) (negsuc 4)))
known_mirrored = refl

-- a shift by which the second needle would leave its range
pub known_refused : Becomes 121 (move (motion.Shift (pos 29996) (pos 0))) two_blocks (Err (reason.MovedOut 3))
known_refused = refl

-- a turn and then a mirroring is not a mirroring and then a turn
pub known_order : BecomesAll 121 (move (motion.Turn 1) ∷ move (motion.Mirror X) ∷ []) (stitched (pos 30) (pos 5))
    (Ok (stitched (pos 5) (pos 30)))
known_order = inl (stitched (negsuc 4) (pos 30), refl, inl (stitched (pos 5) (pos 30), refl, refl))

-- the first change that is refused decides
pub known_first : BecomesAll 121 (thread 1 9 ∷ thread 4 9 ∷ thread 3 9 ∷ []) two_blocks (Err (reason.NoPlace 4 2))
known_first = inl (record two_blocks { threads = 9 ∷ [] }, refl, inr (reason.NoPlace 4 2, refl, refl))
