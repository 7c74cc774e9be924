-- The acts of a design: a fold over the commands with two state flags. One flag says whether the
-- thread is loose, the other whether a jump followed the last act. Before the first command the
-- thread is loose.
use Rattle.std.specs.Prelude.{ℕ, ◌+◌, Bool, true, false, ◌&&◌, not, List, [], ◌∷◌, Option, Some, None, map}
use Rattle.design_model.specs.declared.act.Act.{Act}
use Rattle.design_model.specs.declared.act.Act.TheVariants as act
use Rattle.design_model.specs.declared.act.NumberedAct.{NumberedAct}
use Rattle.design_model.specs.declared.command.Command.{Command}
use Rattle.design_model.specs.declared.command.Command.TheVariants.{Stitch, Jump, Trim, Stop}
use Rattle.design_model.specs.Designs.{DesignValue}

-- An act with the number of the command from which it is computed.
abbrev pub numbered : ℕ → Act → NumberedAct
numbered n a = record { number = n; act = a }

-- The acts of the commands from number n on, given the two flags of the thread before them.
abbrev pub acts_from : ℕ → Bool → Bool → List Command → List NumberedAct
acts_from n loose jumped [] = []
acts_from n loose jumped (Stitch p ∷ rest) =
    numbered n (act.Needle p (jumped && not loose)) ∷ acts_from (n + 1) false false rest
acts_from n loose jumped (Jump p ∷ rest) = acts_from (n + 1) loose true rest
acts_from n true jumped (Trim ∷ rest) = acts_from (n + 1) true jumped rest
acts_from n false jumped (Trim ∷ rest) = numbered n act.Trim ∷ acts_from (n + 1) true false rest
acts_from n loose jumped (Stop ∷ rest) = numbered n act.Stop ∷ acts_from (n + 1) true false rest

-- The list of one numbered act, or the empty list for none.
abbrev pub numbered_act_list : ℕ → Option Act → List NumberedAct
numbered_act_list n (Some a) = numbered n a ∷ []
numbered_act_list n None = []

-- The acts of a list of commands, numbered from 1.
abbrev pub acts_along : List Command → List NumberedAct
acts_along commands = acts_from 1 true false commands

-- The acts of a design.
abbrev pub acts_of : DesignValue → List NumberedAct
acts_of d = acts_along d.commands

-- Acts without their numbers.
abbrev pub acts_without_numbers : List NumberedAct → List Act
acts_without_numbers acts = map (λ a. a.act) acts
