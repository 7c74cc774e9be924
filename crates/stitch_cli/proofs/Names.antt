-- Names from elsewhere that several files of these proofs use.
pub use Rattle.std.proofs.lemmas.List.Elements.{All-head, All-tail}
pub use Rattle.std.proofs.lemmas.List.Sums.{sum_by-cons}
pub use Rattle.std.specs.List.{AllZip}
pub use Rattle.std.specs.Prelude.{IfOk, option_map, sum_by}
pub use Rattle.certificate_text.specs.CertificateTexts.{certificate_text}
pub use Rattle.certificate_text.specs.ReadCertificates.{cert_of}
pub use Rattle.command_words.specs.Changes.{Change, cut, move, split, thread}
pub use Rattle.stitch_cli.specs.AppliedChanges.{IsChangesResult, change_list}
pub use Rattle.design_model.specs.Acts.{acts_from, acts_of, acts_without_numbers}
pub use Rattle.design_model.specs.Designs.{DesignValue, empty_design}
pub use Rattle.design_model.specs.declared.point.Point.{Point}
pub use Rattle.line_graph.specs.Drawings.{DrawingValue}
pub use Rattle.line_graph.specs.GrowingDrawings.{draw_is_out_of_memory, step_count}
pub use Rattle.drawing_text.specs.DrawingText.{drawing_as2, drawing_of}
pub use Rattle.format_traits.proofs.CallerLemmas.{same_format}
pub use Rattle.format_traits.specs.Meanings.{Meaning}
pub use Rattle.format_traits.specs.PlainDesigns.{IsPlain, are_plain_from}
pub use Rattle.format_traits.specs.declared.loaded.Loaded.{Loaded}
pub use Rattle.line_graph.specs.PieceGraphs.{PieceValue, piece_graph}
pub use Rattle.line_graph.specs.PieceWalks.{piece_cost}
pub use Rattle.line_graph.specs.PiecesOfDrawings.{ArePiecesOf, graph_of, lines_of_pieces}
pub use Rattle.line_graph.specs.Runs.{AreNear, AreWritable, Run, RunsAreSewn, Sews, block_of_passes, commands_after, design_of_runs}
pub use Rattle.line_graph.specs.Runs.{runs_of, sewn_design, stops_after}
pub use Rattle.line_graph.specs.declared.piece.Piece.{Piece}
pub use Rattle.design_model.specs.TextLines.{newline}
pub use Rattle.odd_cuts.specs.Certificates.{walks_of}
pub use Rattle.odd_cuts.specs.declared.certificate.PieceCert.{PieceCert}
pub use Rattle.outside_io.specs.Files.{Files, WhereVisible}
pub use Rattle.outside_io.specs.Views.{StoreView}
pub use Rattle.program_shell.proofs.CallerLemmas.{IsParsedMade, IsSoundPlan, accepts_sound, can_finish, ends, named, parsed_made}
pub use Rattle.program_inputs.proofs.CallerLemmas.{settles_found}
pub use Rattle.program_shell.proofs.CallerLemmas.{parses_sound, program_sound, refuses_sound, satisfies_sound, settles_next}
pub use Rattle.program_shell.proofs.CallerLemmas.{settles_taken, takes_next}
pub use Rattle.program_shell.specs.Plans.{AttemptsRead, IsAccepted, Makes, Refuses, satisfies}
pub use Rattle.program_shell.specs.Products.{AllFilesHold, OutputValue, ProductValue, one_file_product, report_product, two_file_product}
pub use Rattle.program_shell.specs.ProgramRuns.{IsDone, IsOrOutOfMemory, status_is_out_of_memory}
pub use Rattle.program_shell.specs.StepOutcomes.{IsPlanResult, RunsPlan, RunsPurePlan, RunsRequest}
pub use Rattle.program_shell.specs.declared.failure.Failure.{Failure}
pub use Rattle.program_shell.specs.declared.product.Product.{Product}
pub use Rattle.route_core.specs.Doubles.{IsDoubled}
pub use Rattle.route_core.specs.Routes.{IsLeastPieceRoute}
pub use Rattle.route_core.specs.SewnDrawings.{IsPieceSewn, IsSewnOver}
pub use Rattle.route_core.specs.declared.routed.Routed.{Routed}
pub use Rattle.route_texts.specs.PieceReports.{piece_report, reports_from}
pub use Rattle.route_texts.specs.SewingReports.{penetrations_of, piece_lines, sewing_report}
pub use Rattle.route_texts.specs.Summaries.{summary_text}
pub use Rattle.route_texts.specs.declared.sewing_reports.PieceReport.{PieceReport}
pub use Rattle.route_verdict.specs.declared.sewing_ways.Sewing.{Sewing}
pub use Rattle.route_verdict.specs.Verdicts.{IsCorrectPieceCert, IsVerdict, verdict_of}
pub use Rattle.stitch_cli.specs.Checks.{CheckOrder, IsCheckFailed, IsCheckPassed, IsCheckResult, check_cert, check_design}
pub use Rattle.stitch_cli.specs.Checks.{check_drawing, check_order, check_plan}
pub use Rattle.stitch_cli.specs.Commands.{Order, checking, hooping, migrating, order_of, outputs_of, plan_of, rewriting, sampling, sewing}
pub use Rattle.stitch_cli.specs.Commands.{showing, stitch, tracing}
pub use Rattle.stitch_cli.specs.Headline.{IsRouteLeft, IsYesRight, OutcomesMeanHeadline}
pub use Rattle.stitch_cli.specs.Hoops.{complete_hoop, hoop_fitted, hoop_order, hoop_read}
pub use Rattle.stitch_cli.specs.Migrations.{IsMigrated, migrate_read}
pub use Rattle.stitch_cli.specs.Rewrites.{IsRewriteResult, RewriteOrder, change_text, complete_rewrite, not_changed, not_written}
pub use Rattle.stitch_cli.specs.Rewrites.{rewrite_order, rewrite_plan, rewrite_read}
pub use Rattle.stitch_cli.specs.Samples.{IsSampleProduct, SampleOrder, cut_sum, retraced_sum, sum_over_pieces, summary_of}
pub use Rattle.stitch_cli.specs.SewingWays.{IsSewnBy}
pub use Rattle.stitch_cli.specs.Sewings.{IsSewnFile, IsSewnProduct, SewingOrder, SewnFiles, piece_reports, sewing_by_limit, sewing_drawing}
pub use Rattle.stitch_cli.specs.Sewings.{sewing_order, sewing_outputs, sewing_plan, sewing_read}
pub use Rattle.stitch_cli.specs.Shows.{complete_show, show_order, show_read}
pub use Rattle.stitch_cli.specs.Tracings.{IsTraced, complete_trace, trace_made, trace_order, trace_read}
pub use Rattle.stitch_trace.specs.Traces.{trace_is_out_of_memory, traced}
