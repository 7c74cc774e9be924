-- What each result of pushing a command excludes, and that a design at its limits keeps them.
use Rattle.std.proofs.Common.{◌≡◌, ℕ, true, false, IsTrue, length, Ok, Err, arith}
use Rattle.design_model.proofs.Names.{list_all, Command, is_command_in_range, DesignValue, KeepsLimits, Pushes, with_command, IsLabel, Result}
use Rattle.design_model.specs.declared.design.ModelFault.TheVariants as fault
use Rattle.design_model.specs.declared.design.ModelFault.{ModelFault}
use Rattle.design_model.specs.OutOfMemory.{IsSpecified}

-- a refusal leaves the design as it was
pub known_unchanged : (c : Command) (old new : DesignValue) → (f : ModelFault) → Pushes {T = ℕ} c old (Err f) new → new ≡ old
known_unchanged c old new fault.Range pushes = pushes.1
known_unchanged c old new fault.TooMany pushes = pushes.2
known_unchanged c old new fault.Memory pushes = pushes.2

-- the command is the last one afterwards
pub known_pushed : (c : Command) (old new : DesignValue) (n : ℕ) → Pushes {T = ℕ} c old (Ok n) new → new ≡ with_command old c
known_pushed c old new n pushes = pushes.2

-- a design of a million commands takes no further one, and is then neither pushed to nor out of memory
pub known_full : (c : Command) (old new : DesignValue) (n : ℕ) → length old.commands ≡ 1000000
    → (Pushes {T = ℕ} c old (Ok n) new → ⊥) × (Pushes {T = ℕ} c old (Err fault.Memory) new → ⊥)
known_full c old new n full = (λ p. omega (arith, p.1, full), λ p. omega (arith, p.1, full))

-- a design of one command less isn't full
pub known_room : (c : Command) (old new : DesignValue) → length old.commands ≡ 999999
    → Pushes {T = ℕ} c old (Err fault.TooMany) new → ⊥
known_room c old new less p = omega (arith, p.1, less)

-- a command out of range is refused for that alone, and one in range isn't
pub known_range : (c : Command) (old new : DesignValue) (n : ℕ) → is_command_in_range c ≡ false
    → (Pushes {T = ℕ} c old (Ok n) new → ⊥) × (Pushes {T = ℕ} c old (Err fault.TooMany) new → ⊥)
    × (Pushes {T = ℕ} c old (Err fault.Memory) new → ⊥)
known_range c old new n out = (λ p. both p.0, λ p. both p.0, λ p. both p.0)
  where
    both : is_command_in_range c ≡ true → ⊥
    both is = cc

pub known_in_range : (c : Command) (old new : DesignValue) → is_command_in_range c ≡ true
    → Pushes {T = ℕ} c old (Err fault.Range) new → ⊥
known_in_range c old new is p = both p.0
  where
    both : is_command_in_range c ≡ false → ⊥
    both out = cc

-- a design may have 255 threads and a million commands, and no more of either
pub known_largest : (d : DesignValue) → IsLabel d.label → length d.threads ≡ 255 → length d.commands ≡ 1000000
    → IsTrue (list_all is_command_in_range d.commands)
    → KeepsLimits d
known_largest d label threads count in_range =
    record { label = label; threads = omega (arith, threads); count = omega (arith, count); in_range = in_range }

pub known_too_large : (d : DesignValue) → KeepsLimits d
    → (length d.threads ≡ 256 → ⊥) × (length d.commands ≡ 1000001 → ⊥) × IsTrue (list_all is_command_in_range d.commands)
known_too_large d limits = (λ is. omega (arith, is, limits.threads), λ is. omega (arith, is, limits.count), limits.in_range)

-- only out of memory stands in for what was specified

pub known_specified : (n : ℕ) (specified : Result ℕ ℕ) → (IsSpecified (λ m. false) specified (Ok n) → specified ≡ Ok n)
    × (IsSpecified (λ m. false) specified (Err n) → specified ≡ Err n)
known_specified n specified = (λ is. is, λ is. is)
