-- The acts of commands in range are in range.
use Rattle.std.proofs.Common.{◌≡◌, ◌+◌, Bool, IsTrue, [], ◌∷◌, ◌++◌, Option, IfSome, arith}
use Rattle.design_model.proofs.Names.{nat_tests, and_parts, and_from, Act, Command, acts_from, numbered_act_list, is_command_in_range, is_act_in_range}
use Rattle.design_model.proofs.CallerLemmas.{acts_in_range, are_in_range}

-- the act of a command in range is in range
pub act_in_range : (command : Command) (r : Option Act) (loose jumped loose_new jumped_new : Bool) → IsTrue (is_command_in_range command)
    → acts_from 0 loose jumped (command ∷ []) ≡ numbered_act_list 0 r ++ acts_from (0 + 1) loose_new jumped_new []
    → IfSome r (λ a. IsTrue (is_act_in_range a))
act_in_range command r loose jumped loose_new jumped_new h1 h2 =
    grind (arith, nat_tests, are_in_range, acts_in_range, and_from, and_parts)
