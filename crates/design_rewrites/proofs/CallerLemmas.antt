-- Lemmas that this crate and those above cite.
use Rattle.std.proofs.Common.{◌≡◌, ◌<◌, length, List, [], ◌∷◌, ◌++◌, Result, Ok, Err, IfOk, true, false, refl, subst, sym, ◌∙◌}
use Rattle.design_model.specs.declared.design.TheConstants.{MAX_COMMANDS}
use Rattle.design_model.specs.LongerDesigns.{with_commands}
use Rattle.design_rewrites.proofs.Names.{Act, Command, DesignValue, acts_of, acts_without_numbers, are_in_order, commands_of_acts}
use Rattle.design_model.specs.declared.point.Point.{Point}
use Rattle.step_splitter.specs.Refits.{needles_at}
use Rattle.design_rewrites.proofs.OrderLemmas.{acts_again, acts_in_order}
use Rattle.design_rewrites.specs.Rewrites.{IsRewritten}
use Rattle.design_rewrites.specs.declared.rewrite_fault.RewriteFault.{RewriteFault}
use Rattle.design_rewrites.specs.declared.rewrite_fault.RewriteFault.TheVariants as fault
use Rattle.design_rewrites.specs.WrittenActs.{WritesActs, WritesCommands, design_after_acts}

-- a call that adds commands after others were added
pub writes_next : {T : Type 0} (before between after : List Command) (old mid new : DesignValue) (r : Result T RewriteFault)
    → with_commands old before ≡ with_commands mid between → WritesCommands between after mid r new
    → WritesCommands before after old r new
writes_next before between after old mid new (Ok x) first next = first ∙ next
writes_next before between after old mid new (Err fault.TooMany) first next =
    subst (λ (d : DesignValue). MAX_COMMANDS < length d.commands) (sym first) next
writes_next before between after old mid new (Err fault.Memory) first next = tt

-- a call that adds acts after others were added
pub acts_next : {T : Type 0} (before between after : List Act) (old mid new : DesignValue) (r : Result T RewriteFault)
    → design_after_acts old before ≡ design_after_acts mid between → WritesActs between after mid r new
    → WritesActs before after old r new
acts_next before between after old mid new (Ok x) first next = first ∙ next
acts_next before between after old mid new (Err fault.TooMany) first next =
    subst (λ (d : DesignValue). MAX_COMMANDS < length d.commands) (sym first) next
acts_next before between after old mid new (Err fault.Memory) first next = tt

-- a call that adds the commands of acts
pub acts_by_commands : {T : Type 0} (before after : List Act) (old new : DesignValue) (r : Result T RewriteFault)
    → WritesCommands (commands_of_acts before) (commands_of_acts after) old r new → WritesActs before after old r new
unfolding design_after_acts
acts_by_commands before after old new (Ok x) writes = writes
acts_by_commands before after old new (Err fault.TooMany) writes = writes
acts_by_commands before after old new (Err fault.Memory) writes = tt

-- the acts of a design are in order
pub in_order : (d : DesignValue) → are_in_order true (acts_without_numbers (acts_of d)) ≡ true
in_order d = acts_in_order 1 true false d.commands

-- a design that is given acts in order has these acts
pub rewritten_has : (d : DesignValue) (acts : List Act) (r : Result DesignValue RewriteFault) → are_in_order true acts ≡ true
    → IsRewritten d acts r → IfOk r (λ new. acts_without_numbers (acts_of new) ≡ acts)
rewritten_has d acts (Ok new) ordered is = rw is.1 (acts_again 1 true acts ordered)
rewritten_has d acts (Err fault) ordered is = tt

-- needles that are no floats may be put in after a needle
pub order_needles : (points : List Point) (acts : List Act) → are_in_order false (needles_at points ++ acts) ≡ are_in_order false acts
order_needles [] acts = refl
order_needles (p ∷ points) acts = order_needles points acts
