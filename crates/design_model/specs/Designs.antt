-- Designs as contracts see them: a label, thread numbers and commands, each within a limit.
use Rattle.std.specs.Prelude.{◌≡◌, ℕ, ◌+◌, ◌%◌, ◌<◌, ◌≤◌, List, [], ◌∷◌, ◌++◌, true, false, length, Result, Ok, Err, IsTrue, slice_get, slice_set, unwrap_or}
use Rattle.std.specs.List.{list_all}
use Rattle.design_model.specs.declared.command.Command.{Command}
use Rattle.design_model.specs.declared.design.ModelFault.{ModelFault}
use Rattle.design_model.specs.declared.design.ModelFault.TheVariants as fault
use Rattle.design_model.specs.declared.design.TheConstants.{MAX_COMMANDS, MAX_THREADS}
use Rattle.design_model.specs.Commands.{is_command_in_range}
use Rattle.design_model.specs.Labels.{IsLabel}

-- A design: the bytes of the label, the thread numbers of the first blocks, and the commands.
pub record DesignValue : Type 0 where
  pub label : List ℕ
  pub threads : List ℕ
  pub commands : List Command

-- The limits of a design.
pub record KeepsLimits (d : DesignValue) : Type 0 where
  pub label : IsLabel d.label
  pub threads : length d.threads ≤ MAX_THREADS
  pub count : length d.commands ≤ MAX_COMMANDS
  pub in_range : IsTrue (list_all is_command_in_range d.commands)

-- The design without label, threads and commands.
abbrev pub empty_design : DesignValue
empty_design = record { label = []; threads = []; commands = [] }

-- A design with another label.
abbrev pub with_label : DesignValue → List ℕ → DesignValue
with_label d text = record d { label = text }

-- A design with one more thread number.
abbrev pub with_thread : DesignValue → ℕ → DesignValue
with_thread d thread = record d { threads = d.threads ++ thread ∷ [] }

-- A design with one of its thread numbers replaced.
abbrev pub with_thread_at : DesignValue → ℕ → ℕ → DesignValue
with_thread_at d place thread = record d { threads = slice_set d.threads place thread }

-- A design with one more command.
abbrev pub with_command : DesignValue → Command → DesignValue
with_command d command = record d { commands = d.commands ++ command ∷ [] }

-- A design with one of its commands replaced.
abbrev pub with_command_at : DesignValue → ℕ → Command → DesignValue
with_command_at d index command = record d { commands = slice_set d.commands index command }

-- The label and the threads of a design, without its commands.
abbrev pub without_commands : DesignValue → DesignValue
without_commands d = record d { commands = [] }

-- The thread of a block: the stored number, else 1 to 64 by the index of the block.
abbrev pub thread_of : DesignValue → ℕ → ℕ
thread_of d block = unwrap_or (slice_get d.threads block) (1 + block % 64)

-- The results of pushing a command. An error leaves the design unchanged.
abbrev pub Pushes : {T : Type 0} → Command → DesignValue → Result T ModelFault → DesignValue
    → Type 0
Pushes c old (Ok _) new =
    (is_command_in_range c ≡ true) × (length old.commands < MAX_COMMANDS)
    × (new ≡ with_command old c)
Pushes c old (Err fault.Range) new = (is_command_in_range c ≡ false) × (new ≡ old)
Pushes c old (Err fault.TooMany) new =
    (is_command_in_range c ≡ true) × (length old.commands ≡ MAX_COMMANDS) × (new ≡ old)
Pushes c old (Err fault.Memory) new =
    (is_command_in_range c ≡ true) × (length old.commands < MAX_COMMANDS) × (new ≡ old)
