-- Names from elsewhere that several files of these proofs use.
pub use Rattle.std.proofs.lemmas.Bool.Decides.{nat_tests}
pub use Rattle.std.proofs.lemmas.List.{at_drop_more, drop_all, take-append-drop}
pub use Rattle.std.specs.List.{concat}
pub use Rattle.design_model.specs.OutOfMemory.{IsSpecified, UnlessOutOfMemory}
pub use Rattle.outside_io.specs.Blames.{Blame, read_call, write_call}
pub use Rattle.outside_io.specs.Causes.{CallFailed, HasNoNewFault, IsFileLonger, with_bytes_taken}
pub use Rattle.outside_io.specs.Counts.{Rose}
pub use Rattle.outside_io.specs.Files.{ChangesOnlyFile, FileHolds, Files, LacksFile}
pub use Rattle.outside_io.specs.Views.{SinkView, StoreView}
pub use Rattle.outside_io.specs.declared.store.Failed.{Failed}
pub use Rattle.program_shell.specs.ExactPlans.{IsExact, IsSoundProgram}
pub use Rattle.program_shell.specs.FinishedRuns.{Delivers, FinishesRun, ReportsFailure, all, but_report, failure_line, up_to}
pub use Rattle.program_shell.specs.Messages.{cannot_print_line, cannot_read_line, cannot_write_line, message_line, out_of_memory_line}
pub use Rattle.program_shell.specs.Plans.{AttemptsRead, IsAccepted, IsInputContent, IsInputTooLong, LacksInput, Makes, Plan, Refuses}
pub use Rattle.program_shell.specs.Plans.{accepts, reads, refuses, satisfies}
pub use Rattle.program_shell.specs.Products.{AllFilesHold, ChangesOnlyFiles, HaveDistinctNames, HaveFileNames, IsNoneOf, OutputValue}
pub use Rattle.program_shell.specs.Products.{ProductValue, WroteAll, WroteUpTo, output_names, output_values, product_value}
pub use Rattle.program_shell.specs.Programs.{Program}
pub use Rattle.program_shell.specs.Puts.{PutFailed, Puts, ReportsLineWithStatus, with_bytes_put}
pub use Rattle.program_shell.specs.RunFailures.{IsMissingInput, IsOutsideFailure, IsPrintFailure, IsReadFailure, IsWriteFailure, missing}
pub use Rattle.program_shell.specs.RunFailures.{not_read, not_written, unprinted}
pub use Rattle.program_shell.specs.RunViews.{IsFaultlessRun, IsUntouched, Views, views_of}
pub use Rattle.program_shell.specs.ProgramRuns.{IsDecided, IsDone, IsFailed, IsFault, IsMemory, IsOrOutOfMemory, IsPlannedOutcome}
pub use Rattle.program_shell.specs.ProgramRuns.{IsRefused, IsReportLost, IsRequested, IsUsage, KeepsOtherFiles, RunEnds, failed, memory}
pub use Rattle.program_shell.specs.ProgramRuns.{refused, status_is_out_of_memory, usage}
pub use Rattle.program_shell.specs.StepOutcomes.{CanFinish, IsFailureOf, IsFaultFailure, IsParsedInput, IsPlanResult}
pub use Rattle.program_shell.specs.StepOutcomes.{ParsesInput, ReadsInput, RunsPlan, RunsPurePlan, RunsRequest, status_of}
pub use Rattle.program_shell.specs.declared.failure.Failure.{Failure}
pub use Rattle.program_shell.specs.declared.product.Product.{Product}
pub use Rattle.program_shell.specs.declared.status.Status.{Status}
