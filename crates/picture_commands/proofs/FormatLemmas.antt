-- A run over these formats is a run over the five.
use Rattle.std.proofs.Common.{◌≡◌, ℕ, List, subst}
use Rattle.format_traits.specs.Meanings.{Meaning}
use Rattle.picture_commands.specs.Orders.{picture_mistake, picture_order, picture_program_after}
use Rattle.program_shell.specs.ProgramRuns.{RunEnds}
use Rattle.program_shell.specs.RunViews.{Views}
use Rattle.program_shell.specs.declared.status.Status.{Status}

pub over_formats : (formats five : List Meaning) (words : List (List ℕ)) (before after : Views) (s : Status) → formats ≡ five
    → RunEnds (picture_program_after (picture_mistake formats words)) (picture_order formats words) before after s
    → RunEnds (picture_program_after (picture_mistake five words)) (picture_order five words) before after s
over_formats formats five words before after s are ends = subst (λ (ms : List Meaning).
    RunEnds (picture_program_after (picture_mistake ms words)) (picture_order ms words) before after s) are ends
