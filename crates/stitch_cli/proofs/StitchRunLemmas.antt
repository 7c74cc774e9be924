-- A run over these formats is a run over the five.
use Rattle.std.proofs.Common.{◌≡◌, ℕ, List, subst}
use Rattle.all_formats.specs.StitchFormats.{stitch_formats}
use Rattle.program_shell.specs.RunViews.{Views}
use Rattle.program_shell.specs.declared.status.Status.{Status}
use Rattle.program_shell.specs.ProgramRuns.{RunEnds}
use Rattle.stitch_cli.proofs.Names.{Meaning, order_of, stitch}
use Rattle.stitch_cli.specs.Headline.{ChecksRightly, RoutesLeast}
use Rattle.stitch_cli.specs.StitchRuns.{IsStitchRun}

pub over_formats : (formats : List Meaning) (words : List (List ℕ)) (before after : Views) (s : Status) → formats ≡ stitch_formats
    → RunEnds stitch (order_of formats words) before after s → RoutesLeast (order_of formats words) before after s
    → ChecksRightly (order_of formats words) before s → IsStitchRun words before after s
over_formats formats words before after s are ends routes checks = record {
  ends = subst (λ (ms : List Meaning). RunEnds stitch (order_of ms words) before after s) are ends;
  routes = subst (λ (ms : List Meaning). RoutesLeast (order_of ms words) before after s) are routes;
  checks = subst (λ (ms : List Meaning). ChecksRightly (order_of ms words) before s) are checks;
}
