-- Worked values of acts in order, and results that are excluded.
use Rattle.std.proofs.Common.{◌≡◌, ℕ, pos, true, false, List, [], ◌∷◌, Ok, Err, length, refl, arith}
use Rattle.design_model.specs.declared.act.Act.TheVariants as act
use Rattle.design_model.specs.declared.point.Point.{Point}
use Rattle.design_rewrites.specs.Rewrites.{IsRewritten, design_with_acts}
use Rattle.design_rewrites.specs.Threads.{is_thread_end, next_needle}
use Rattle.design_rewrites.specs.declared.rewrite_fault.RewriteFault.TheVariants as fault
use Rattle.design_rewrites.proofs.Names.{Act, DesignValue, are_in_order, commands_of_acts}

abbrev at : ℕ → Point
at x = record { x = pos x; y = pos 0 }

-- a float or a trim never follows a trim, a stop or the beginning
pub known_order : (are_in_order true (act.Needle (at 1) false ∷ act.Needle (at 2) true ∷ act.Trim ∷ act.Stop ∷ act.Stop ∷ []) ≡ true)
    × (are_in_order true (act.Needle (at 1) true ∷ []) ≡ false)
    × (are_in_order true (act.Trim ∷ []) ≡ false)
    × (are_in_order false (act.Stop ∷ act.Needle (at 1) true ∷ []) ≡ false)
    × (are_in_order false (act.Trim ∷ act.Trim ∷ []) ≡ false)
known_order = (refl, refl, refl, refl, refl)

-- the needle that follows, and where a thread ends
pub known_next : (next_needle (at 1) (act.Needle (at 5) true ∷ []) ≡ at 5) × (next_needle (at 1) (act.Trim ∷ []) ≡ at 1)
    × (next_needle (at 1) [] ≡ at 1)
known_next = (refl, refl, refl)

pub known_ends : (is_thread_end [] ≡ true) × (is_thread_end (act.Stop ∷ []) ≡ true) × (is_thread_end (act.Trim ∷ []) ≡ true)
    × (is_thread_end (act.Needle (at 5) true ∷ []) ≡ false)
known_ends = (refl, refl, refl, refl)

-- a design of up to a million commands is rewritten, and only one of more is refused
pub known_rewritten : (d new : DesignValue) (acts : List Act) → IsRewritten d acts (Ok new)
    → (length (commands_of_acts acts) ≡ 1000001 → ⊥) × (new ≡ design_with_acts d acts)
known_rewritten d new acts is = (λ more. omega (arith, more, is.0), is.1)

pub known_too_many : (d : DesignValue) (acts : List Act) → IsRewritten d acts (Err fault.TooMany)
    → length (commands_of_acts acts) ≡ 1000000 → ⊥
known_too_many d acts is few = omega (arith, few, is)
