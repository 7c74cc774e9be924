-- Commands of which one is moved to another point.
use Rattle.std.proofs.Common.{◌≡◌, ℕ, zero, suc, IsTrue, List, [], ◌∷◌, Option, IfSome, IsSomeAnd, get_or, set, arith}
use Rattle.std.specs.Prelude.{slice_get}
use Rattle.design_model.proofs.Names.{nat_tests, and_parts, and_from, list_all, Command, Point, is_command_in_range, command_with_point, command_accepts_point}

-- A command that accepts a point is in range there.
taken_in_range : (c : Command) (p : Point) → IsTrue (command_accepts_point c p) → IsTrue (is_command_in_range (command_with_point c p))
taken_in_range c p h1 = grind (arith, nat_tests)

-- the command that was found at the index is the one that is looked up there
found_there : (cs : List Command) (i : ℕ) (found : Command) → found ≡ get_or cs i found → IfSome (slice_get cs i) (λ c. found ≡ c)
found_there [] i found is = tt
found_there (c ∷ rest) zero found is = is
found_there (c ∷ rest) (suc i) found is = found_there rest i found is

-- The replaced command can be computed from either of two equal ones.
put_there : (cs : List Command) (i : ℕ) (found : Command) (p : Point) (looked_up : Option Command) → IfSome looked_up (λ c. found ≡ c)
    → IfSome looked_up (λ c. set cs i (command_with_point found p) ≡ set cs i (command_with_point c p))
put_there cs i found p looked_up h1 = grind (arith, nat_tests)

pub moved_in_place : (cs : List Command) (i : ℕ) (found : Command) (p : Point) → found ≡ get_or cs i found
    → IfSome (slice_get cs i) (λ c. set cs i (command_with_point found p) ≡ set cs i (command_with_point c p))
moved_in_place cs i found p is = put_there cs i found p (slice_get cs i) (found_there cs i found is)

-- Commands in range remain in range.
pub moved_in_range : (cs : List Command) (i : ℕ) (found : Command) (p : Point) → found ≡ get_or cs i found
    → IsSomeAnd (slice_get cs i) (λ c. IsTrue (command_accepts_point c p))
    → IsTrue (list_all is_command_in_range cs) → IsTrue (list_all is_command_in_range (set cs i (command_with_point found p)))
moved_in_range [] i found p is takes all = all
moved_in_range (c ∷ rest) zero found p is takes all = grind (arith, nat_tests, and_from, taken_in_range, and_parts)
moved_in_range (c ∷ rest) (suc i) found p is takes all =
    let both = and_parts (is_command_in_range c) (list_all is_command_in_range rest) all in
    and_from (is_command_in_range c) (list_all is_command_in_range (set rest i (command_with_point found p))) both.0
    (moved_in_range rest i found p is takes both.1)
