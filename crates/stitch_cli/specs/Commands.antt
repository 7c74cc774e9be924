-- The commands: the order that the arguments request, its plan, and the files that it writes.
use Rattle.std.specs.Prelude.{ℕ, List, [], ◌∷◌, Option, Some, None, codes, option_map, unwrap_or}
use Rattle.command_words.specs.Arguments.{parsed_edits}
use Rattle.command_words.specs.RefitFlags.{refit_changes}
use Rattle.command_words.specs.Requests.{RequestValue, parsed_request, check, convert, double, edit, hoop, migrate, route, sample, show, trace}
use Rattle.format_traits.specs.Endings.{format_of}
use Rattle.format_traits.specs.Meanings.{Meaning}
use Rattle.program_shell.specs.Plans.{Plan}
use Rattle.program_shell.specs.Programs.{Program}
use Rattle.program_texts.specs.UsageText.{usage_text}
use Rattle.route_verdict.specs.declared.sewing_ways.Sewing.{Sewing}
use Rattle.route_verdict.specs.declared.sewing_ways.Sewing.TheVariants as ways
use Rattle.stitch_cli.specs.Checks.{CheckOrder, check_plan, complete_check}
use Rattle.stitch_cli.specs.Hoops.{HoopOrder, complete_hoop, hoop_plan}
use Rattle.stitch_cli.specs.Migrations.{MigrateOrder, complete_migrate, migrate_plan}
use Rattle.stitch_cli.specs.Rewrites.{RewriteOrder, complete_rewrite, rewrite_plan}
use Rattle.stitch_cli.specs.Samples.{SampleOrder, sample_order, sample_plan}
use Rattle.stitch_cli.specs.Sewings.{SewingOrder, complete_sewing, sewing_outputs, sewing_plan}
use Rattle.stitch_cli.specs.SewingWays.{IsSewnBy}
use Rattle.stitch_cli.specs.Shows.{ShowOrder, complete_show, show_plan}
use Rattle.stitch_cli.specs.Tracings.{TraceOrder, complete_trace, trace_plan}

-- An order, with a case for each command. `route` and `double` are both sewing, `convert` and
-- `edit` both rewriting.
pub data Order : Type 0 where
  sewing : Sewing → SewingOrder → Order
  checking : CheckOrder → Order
  sampling : SampleOrder → Order
  migrating : MigrateOrder → Order
  tracing : TraceOrder → Order
  rewriting : RewriteOrder → Order
  showing : ShowOrder → Order
  hooping : HoopOrder → Order

-- The order of a request, if it is complete: the formats of its files are known, and its file names
-- differ where they must.
abbrev pub complete_request : List Meaning → Option RequestValue → Option Order
complete_request formats None = None
complete_request formats (Some (route drawing out cert)) = option_map (λ o. sewing ways.Route o)
    (complete_sewing drawing out cert (format_of formats out))
complete_request formats (Some (double drawing out cert)) = option_map (λ o. sewing ways.Double o)
    (complete_sewing drawing out cert (format_of formats out))
complete_request formats (Some (check drawing file cert)) = option_map (λ o. checking o)
    (complete_check drawing file cert (format_of formats file))
complete_request formats (Some (sample number drawing)) =
    Some (sampling (sample_order number drawing))
complete_request formats (Some (migrate input output)) =
    option_map (λ o. migrating o) (complete_migrate input output)
complete_request formats (Some (trace file drawing)) =
    option_map (λ o. tracing o) (complete_trace file drawing (format_of formats file))
complete_request formats (Some (convert input output splits cuts)) = option_map (λ o. rewriting o)
    (complete_rewrite input output (refit_changes splits cuts) (format_of formats input)
    (format_of formats output))
complete_request formats (Some (edit input output edits)) = option_map (λ o. rewriting o)
    (complete_rewrite input output (unwrap_or (parsed_edits edits) []) (format_of formats input)
    (format_of formats output))
complete_request formats (Some (show file)) =
    option_map (λ o. showing o) (complete_show file (format_of formats file))
complete_request formats (Some (hoop file width height)) =
    option_map (λ o. hooping o) (complete_hoop file width height (format_of formats file))

-- The order that the arguments request, or none.
abbrev pub order_of : List Meaning → List (List ℕ) → Option Order
order_of formats words = complete_request formats (parsed_request words)

-- The plan of an order: which files it reads, and what it accepts or refuses.
abbrev pub plan_of : Order → Plan
plan_of (sewing way order) = sewing_plan (IsSewnBy way) order
plan_of (checking order) = check_plan order
plan_of (sampling order) = sample_plan order
plan_of (migrating order) = migrate_plan order
plan_of (tracing order) = trace_plan order
plan_of (rewriting order) = rewrite_plan order
plan_of (showing order) = show_plan order
plan_of (hooping order) = hoop_plan order

-- The names of the files that an order writes, in the order of writing.
abbrev pub outputs_of : Order → List (List ℕ)
outputs_of (sewing way order) = sewing_outputs order
outputs_of (checking order) = []
outputs_of (sampling order) = order.drawing ∷ []
outputs_of (migrating order) = order.output ∷ []
outputs_of (tracing order) = order.drawing ∷ []
outputs_of (rewriting order) = order.output ∷ []
outputs_of (showing order) = []
outputs_of (hooping order) = []

-- The program.
abbrev pub stitch : Program Order
stitch = record { name = codes "stitch"; usage = usage_text; plan = plan_of; outputs = outputs_of }
