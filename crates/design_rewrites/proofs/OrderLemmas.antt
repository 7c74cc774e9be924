-- Acts in order, and their commands.
use Rattle.std.proofs.Common.{arith, ◌≡◌, ℕ, ◌+◌, Bool, true, false, List, [], ◌∷◌, refl}
use Rattle.design_model.specs.declared.act.Act.TheVariants as act
use Rattle.design_model.specs.declared.command.Command.TheVariants as command
use Rattle.design_rewrites.proofs.Names.{nat_tests, Act, Command, acts_from, acts_without_numbers, are_in_order, commands_of_acts}

-- the acts of commands are in order
pub acts_in_order : (n : ℕ) (loose jumped : Bool) (commands : List Command)
    → are_in_order loose (acts_without_numbers (acts_from n loose jumped commands)) ≡ true
acts_in_order n loose jumped [] = refl
acts_in_order n true true (command.Stitch p ∷ rest) = acts_in_order (n + 1) false false rest
acts_in_order n true false (command.Stitch p ∷ rest) = acts_in_order (n + 1) false false rest
acts_in_order n false true (command.Stitch p ∷ rest) = acts_in_order (n + 1) false false rest
acts_in_order n false false (command.Stitch p ∷ rest) = acts_in_order (n + 1) false false rest
acts_in_order n loose jumped (command.Jump p ∷ rest) = acts_in_order (n + 1) loose true rest
acts_in_order n true jumped (command.Trim ∷ rest) = acts_in_order (n + 1) true jumped rest
acts_in_order n false jumped (command.Trim ∷ rest) = acts_in_order (n + 1) true false rest
acts_in_order n true jumped (command.Stop ∷ rest) = acts_in_order (n + 1) true false rest
acts_in_order n false jumped (command.Stop ∷ rest) = acts_in_order (n + 1) true false rest

-- the commands of acts in order have these acts
pub acts_again : (n : ℕ) (loose : Bool) (acts : List Act) → are_in_order loose acts ≡ true
    → acts_without_numbers (acts_from n loose false (commands_of_acts acts)) ≡ acts
acts_again n loose [] ordered = refl
acts_again n true (act.Needle p true ∷ rest) ordered = cc
acts_again n false (act.Needle p true ∷ rest) ordered = grind (arith, nat_tests, acts_again (n + 1 + 1) false rest ordered)
acts_again n true (act.Needle p false ∷ rest) ordered = grind (arith, nat_tests, acts_again (n + 1) false rest ordered)
acts_again n false (act.Needle p false ∷ rest) ordered = grind (arith, nat_tests, acts_again (n + 1) false rest ordered)
acts_again n true (act.Trim ∷ rest) ordered = cc
acts_again n false (act.Trim ∷ rest) ordered = grind (arith, nat_tests, acts_again (n + 1) true rest ordered)
acts_again n true (act.Stop ∷ rest) ordered = grind (arith, nat_tests, acts_again (n + 1) true rest ordered)
acts_again n false (act.Stop ∷ rest) ordered = grind (arith, nat_tests, acts_again (n + 1) true rest ordered)
