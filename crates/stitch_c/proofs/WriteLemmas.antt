-- Runs of orders without outputs leave all files as they were.
use Rattle.std.proofs.Common.{◌≡◌, ℕ, List, [], Option, Some, None, option_map, refl, subst, sym}
use Rattle.design_commands.specs.Commands.{DesignOrder, if_both_known}
use Rattle.format_traits.specs.Meanings.{Meaning}
use Rattle.outside_io.specs.Files.{Files}
use Rattle.program_shell.specs.Products.{ChangesOnlyFiles}
use Rattle.program_shell.specs.ProgramRuns.{KeepsOtherFiles}
use Rattle.program_shell.specs.Programs.{Program}
use Rattle.program_shell.specs.RunViews.{Views}

-- files that stay as they are
same_files : (files : Option Files) → ChangesOnlyFiles [] files files
same_files None = tt
same_files (Some files) = λ name apart. refl

-- a run of an order without outputs, or of none
pub without_outputs : {Order : Type 0} (program : Program Order) (requested : Option Order) (before after : Views)
    → ((order : Order) → requested ≡ Some order → program.outputs order ≡ []) → KeepsOtherFiles program requested before after
    → ChangesOnlyFiles [] before.store.files after.store.files
without_outputs program None before after none keeps =
    subst (λ (files : Option Files). ChangesOnlyFiles [] before.store.files files) (sym keeps) (same_files before.store.files)
without_outputs program (Some order) before after none keeps =
    subst (λ (names : List (List ℕ)). ChangesOnlyFiles names before.store.files after.store.files) (none order refl) keeps

-- an order has no outputs where one that it equals has none
pub same_without_outputs : {Order : Type 0} (made order : Order) (outputs : Order → List (List ℕ)) → outputs made ≡ []
    → Some made ≡ Some order → outputs order ≡ []
same_without_outputs {Order} made order outputs none is =
    let same : made ≡ order = cc in subst (λ (o : Order). outputs o ≡ []) same none

-- an order that is made of what is found, if anything is, has no outputs where none that is made so has
pub made_without_outputs : {Found Order : Type 0} (made : Found → Order) (outputs : Order → List (List ℕ))
    → ((one : Found) → outputs (made one) ≡ []) → (found : Option Found) (order : Order) → option_map made found ≡ Some order
    → outputs order ≡ []
made_without_outputs made outputs none None order is = absurd (cc)
made_without_outputs made outputs none (Some one) order is = same_without_outputs (made one) order outputs (none one) is

-- nor has an order that is made of two formats, if both are known
pub both_without_outputs : (made : Meaning → Meaning → DesignOrder) (outputs : DesignOrder → List (List ℕ))
    → ((m n : Meaning) → outputs (made m n) ≡ []) → (m n : Option Meaning) (order : DesignOrder)
    → if_both_known made m n ≡ Some order → outputs order ≡ []
both_without_outputs made outputs none (Some m) (Some n) order is = same_without_outputs (made m n) order outputs (none m n) is
both_without_outputs made outputs none None n order is = absurd (cc)
both_without_outputs made outputs none (Some m) None order is = absurd (cc)
