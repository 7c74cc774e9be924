-- What is in range, what added commands and acts leave to come, and the laws of acts in order.
use Rattle.std.proofs.Common.{◌≡◌, ◌∙◌, ℕ, ℤ, pos, negsuc, true, false, List, [], ◌∷◌, ◌++◌, Some, None, Ok, Err, map, length, refl, arith, ap, sym, true≢false}
use Rattle.design_model.specs.declared.act.Act.TheVariants as act
use Rattle.design_model.specs.declared.command.Command.TheVariants as command
use Rattle.design_model.specs.declared.point.Point.{Point}
use Rattle.design_rewrites.specs.OrderedActs.{ActsOfCommandsStay, DesignActsAreInOrder}
use Rattle.design_rewrites.specs.Threads.{is_before_in_range}
use Rattle.design_rewrites.specs.WrittenActs.{AreActsInRange, WritesActs, WritesCommands, design_after_acts}
use Rattle.design_rewrites.specs.declared.rewrite_fault.RewriteFault.TheVariants as fault
use Rattle.design_rewrites.proofs.Names.{Act, Command, DesignValue, acts_along, acts_of, acts_without_numbers, are_in_order, commands_of_acts}

abbrev at : ℤ → ℤ → Point
at x y = record { x = x; y = y }

-- the needle before is in range up to 3 m on each axis; none is in range as well
pub known_before : map is_before_in_range (None ∷ Some (at (pos 30000) (negsuc 29999)) ∷ Some (at (negsuc 30000) (pos 5)) ∷ [])
    ≡ true ∷ true ∷ false ∷ []
known_before = refl

-- each act has a point in range
pub known_in_range : AreActsInRange (record { number = 1; act = act.Needle (at (pos 30000) (negsuc 29999)) true }
    ∷ record { number = 2; act = act.Trim } ∷ [])
known_in_range = refl

pub known_out_of_range : AreActsInRange (record { number = 1; act = act.Trim }
    ∷ record { number = 2; act = act.Needle (at (pos 5) (pos 30001)) false } ∷ [])
    → ⊥
known_out_of_range are = true≢false (sym are)

-- with what is still to come the commands are the same, and only more than a million are too many
pub known_commands : (before after : List Command) (old new : DesignValue) (n : ℕ) → WritesCommands {T = ℕ} before after old (Ok n) new
    → record old { commands = old.commands ++ before } ≡ record new { commands = new.commands ++ after }
known_commands before after old new n writes = writes

pub known_commands_refused : (before after : List Command) (old new : DesignValue)
    → WritesCommands {T = ℕ} before after old (Err fault.TooMany) new → length (old.commands ++ before) ≡ 1000000 → ⊥
known_commands_refused before after old new writes fits = omega (arith, fits, writes)

pub known_acts : (before after : List Act) (old new : DesignValue) (n : ℕ) → WritesActs {T = ℕ} before after old (Ok n) new
    → record old { commands = old.commands ++ commands_of_acts before } ≡ record new { commands = new.commands ++ commands_of_acts after }
unfolding design_after_acts
known_acts before after old new n writes = writes

pub known_acts_refused : (before after : List Act) (old new : DesignValue) → WritesActs {T = ℕ} before after old (Err fault.TooMany) new
    → length (old.commands ++ commands_of_acts before) ≡ 1000000 → ⊥
unfolding design_after_acts
known_acts_refused before after old new writes fits = omega (arith, fits, writes)

-- No design begins with a trim, with a float, or has two trims beside one another.
abbrev Unordered : List Act → Type 0
Unordered acts = (d : DesignValue) → acts_without_numbers (acts_of d) ≡ acts → ⊥

refuted : DesignActsAreInOrder → (acts : List Act) → are_in_order true acts ≡ false → Unordered acts
refuted law acts out d is = true≢false (sym (law d) ∙ ap (are_in_order true) is ∙ out)

pub known_unordered : DesignActsAreInOrder → (p q : Point) → Unordered (act.Trim ∷ []) × Unordered (act.Needle p true ∷ act.Stop ∷ [])
    × Unordered (act.Needle p false ∷ act.Trim ∷ act.Needle q true ∷ []) × Unordered (act.Needle p false ∷ act.Trim ∷ act.Trim ∷ [])
known_unordered law p q = (refuted law _ refl, refuted law _ refl, refuted law _ refl, refuted law _ refl)

-- the commands of a needle, a float, a trim and a stop have these acts
pub known_stay : ActsOfCommandsStay → (d : DesignValue) (p q : Point)
    → acts_without_numbers (acts_along (command.Stitch p ∷ command.Jump q ∷ command.Stitch q ∷ command.Trim ∷ command.Stop ∷ []))
    ≡ act.Needle p false ∷ act.Needle q true ∷ act.Trim ∷ act.Stop ∷ []
known_stay law d p q = law d (act.Needle p false ∷ act.Needle q true ∷ act.Trim ∷ act.Stop ∷ []) refl

-- acts that are in order are had by some commands
pub known_stay_any : ActsOfCommandsStay → (d : DesignValue) (acts : List Act) → are_in_order true acts ≡ true
    → acts_without_numbers (acts_along (commands_of_acts acts)) ≡ acts
known_stay_any law d acts ordered = law d acts ordered
