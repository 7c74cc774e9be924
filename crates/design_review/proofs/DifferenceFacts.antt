-- Worked differences of small designs.
use Rattle.std.proofs.Common.{◌≡◌, ℕ, pos, List, [], ◌∷◌, Some, None, true, false, refl}
use Rattle.design_model.specs.declared.act.Act.TheVariants as act
use Rattle.design_model.specs.declared.command.Command.{Command}
use Rattle.design_model.specs.declared.command.Command.TheVariants.{Stitch, Jump, Trim, Stop}
use Rattle.design_model.specs.declared.point.Point.{Point}
use Rattle.design_model.specs.Designs.{DesignValue}
use Rattle.design_review.specs.Differences.{act_difference_of, thread_difference_of}
use Rattle.design_model.specs.Acts.{acts_of, acts_without_numbers}
use Rattle.design_review.specs.Sameness.{NoDifferenceIsSameness}

abbrev at : ℕ → ℕ → Point
at x y = record { x = pos x; y = pos y }

abbrev sewn : List ℕ → List Command → DesignValue
sewn threads commands = record { label = []; threads = threads; commands = commands }

-- Jumps and labels are no acts. A float, another point, another kind of act and an end are differences.
pub known_acts : (act_difference_of (sewn [] (Stitch (at 1 2) ∷ Trim ∷ Stitch (at 3 4) ∷ []))
    (sewn (7 ∷ []) (Jump (at 9 9) ∷ Stitch (at 1 2) ∷ Trim ∷ Jump (at 8 8) ∷ Stitch (at 3 4) ∷ [])) ≡ None)
    × (act_difference_of (sewn [] (Stitch (at 1 2) ∷ Stitch (at 3 4) ∷ []))
    (sewn [] (Stitch (at 1 2) ∷ Jump (at 8 8) ∷ Stitch (at 3 4) ∷ []))
    ≡ Some (record { number = 2; first = Some (act.Needle (at 3 4) false); second = Some (act.Needle (at 3 4) true) }))
    × (act_difference_of (sewn [] (Stitch (at 1 2) ∷ Stop ∷ [])) (sewn [] (Stitch (at 1 2) ∷ Trim ∷ []))
    ≡ Some (record { number = 2; first = Some act.Stop; second = Some act.Trim }))
    × (act_difference_of (sewn [] (Stitch (at 1 2) ∷ [])) (sewn [] (Stitch (at 2 1) ∷ []))
    ≡ Some (record { number = 1; first = Some (act.Needle (at 1 2) false); second = Some (act.Needle (at 2 1) false) }))
    × (act_difference_of (sewn [] (Stitch (at 1 2) ∷ [])) (sewn [] [])
    ≡ Some (record { number = 1; first = Some (act.Needle (at 1 2) false); second = None }))
    × (act_difference_of (sewn [] []) (sewn [] (Stop ∷ [])) ≡ Some (record { number = 1; first = None; second = Some act.Stop }))
known_acts = (refl, refl, refl, refl, refl, refl)

-- The second block has thread 2 where none is given.
pub known_threads : (thread_difference_of (sewn (5 ∷ []) (Stop ∷ [])) (sewn (5 ∷ 9 ∷ []) (Stop ∷ []))
    ≡ Some (record { block = 2; first = 2; second = 9 }))
    × (thread_difference_of (sewn (5 ∷ []) (Stop ∷ [])) (sewn (5 ∷ 2 ∷ 8 ∷ []) (Stop ∷ [])) ≡ None)
    × (thread_difference_of (sewn (5 ∷ []) []) (sewn [] []) ≡ Some (record { block = 1; first = 5; second = 1 }))
known_threads = (refl, refl, refl)

-- No difference means the same acts, and the same acts have no difference.
pub known_sameness : NoDifferenceIsSameness → (first second : DesignValue)
    → (act_difference_of first second ≡ None → acts_without_numbers (acts_of first) ≡ acts_without_numbers (acts_of second))
    × (acts_without_numbers (acts_of first) ≡ acts_without_numbers (acts_of second) → act_difference_of first second ≡ None)
known_sameness law first second = ((law first second).0, (law first second).1)
