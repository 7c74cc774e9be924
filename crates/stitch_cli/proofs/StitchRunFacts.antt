-- What a run of `stitch` guarantees of its arguments, and the steps of its commands.
use Rattle.std.proofs.Common.{◌≡◌, ℕ, List, [], ◌∷◌, Option, Some, None, Result, Ok, Err, map, string_bytes, true, false, unwrap_or, codes, refl}
use Rattle.command_words.specs.Arguments.{parsed_edits}
use Rattle.command_words.specs.ValidRequests.{AreEdits}
use Rattle.command_words.specs.declared.names.FileNames.{FileNames}
use Rattle.command_words.specs.declared.names.RouteNames.{RouteNames}
use Rattle.design_edits.specs.declared.motion.Motion.TheVariants as motion
use Rattle.design_model.specs.Counts.{counts_of}
use Rattle.format_traits.specs.Laws.{MovesWithin, RoundTrips}
use Rattle.format_traits.specs.declared.fault.WriteFault.{WriteFault}
use Rattle.format_traits.specs.declared.fault.WriteFault.TheVariants as write
use Rattle.program_shell.specs.Messages.{message_line}
use Rattle.program_shell.specs.ProgramRuns.{RunEnds}
use Rattle.program_shell.specs.Puts.{with_bytes_put}
use Rattle.program_shell.specs.RunViews.{Views}
use Rattle.program_shell.specs.declared.failure.Failure.TheVariants as failure
use Rattle.program_shell.specs.declared.status.Status.{Status}
use Rattle.program_shell.specs.declared.status.Status.TheVariants as status
use Rattle.program_texts.specs.DesignReports.{written_report}
use Rattle.program_texts.specs.DesignTexts.{write_fault_text}
use Rattle.route_verdict.specs.declared.sewing_ways.Sewing.TheVariants as ways
use Rattle.step_splitter.specs.declared.refitting.RefitMode.TheVariants as mode
use Rattle.stitch_cli.proofs.Names.{CheckOrder, DesignValue, Files, IsRouteLeft, IsYesRight, Meaning, Order, OutcomesMeanHeadline, ProductValue, Refuses, SewingOrder, change_list, change_text, check_order, checking, cut, move, one_file_product, plan_of, rewrite_order, sewing, sewing_order, split, stitch}
use Rattle.stitch_cli.specs.AppliedChanges.{AreValidChanges}
use Rattle.stitch_cli.specs.ChangeSteps.{IsEditResult, refit_change}
use Rattle.stitch_cli.specs.ChangedDesigns.{moved}
use Rattle.stitch_cli.specs.Headline.{ChecksRightly, RoutesLeast}
use Rattle.stitch_cli.specs.RewriteSteps.{IsChangeFailure, IsEncodeResult}
use Rattle.stitch_cli.specs.StitchRuns.{IsStitchRun, stitch_order}
use Rattle.stitch_cli.specs.declared.change_faults.ChangeFailure.TheVariants as change_failure
use Rattle.stitch_cli.specs.declared.change_faults.ChangeFault.{ChangeFault}
use Rattle.stitch_cli.specs.declared.change_faults.ChangeFault.TheVariants as change
use Rattle.stitch_cli.specs.declared.changes.Changes.TheVariants as changes

-- a route that is done leaves a least route of the drawing, and a check that is done was of least redwork, where files are visible
pub known_route : (words : List (List ℕ)) (before after : Views) (order : SewingOrder) (old new : Files)
    → IsStitchRun words before after status.Done → stitch_order words ≡ Some (sewing ways.Route order)
    → before.store.files ≡ Some old → after.store.files ≡ Some new → IsRouteLeft order old new
known_route words before after order old new runs requested shown left = runs.routes order requested refl old shown new left

pub known_check : (words : List (List ℕ)) (before after : Views) (order : CheckOrder) (files : Files)
    → IsStitchRun words before after status.Done → stitch_order words ≡ Some (checking order)
    → before.store.files ≡ Some files → IsYesRight order files
known_check words before after order files runs requested shown = runs.checks order requested refl files shown

-- arguments that request nothing are never done, and have the usage text reported
pub known_nothing_done : (before after : Views) → IsStitchRun [] before after status.Done → ⊥
known_nothing_done before after runs = none (runs.ends.done refl).is_requested
  where
    none : {order : Order} → ◌≡◌ {A = Option Order} None (Some order) → ⊥
    none is = cc

pub known_usage : (before after : Views) → IsStitchRun (codes "rout" ∷ []) before after status.Usage
    → after.err ≡ with_bytes_put before.err stitch.usage
known_usage before after runs = (runs.ends.usage refl).message

-- a refused run reports why its plan refuses
pub known_refused : (words : List (List ℕ)) (before after : Views) → IsStitchRun words before after status.Refused
    → (order : Order) × (why : List ℕ) × (stitch_order words ≡ Some order) × Refuses (plan_of order) before.store.files why
    × (after.err ≡ with_bytes_put before.err (message_line (codes "stitch") why))
known_refused words before after runs =
    let is = runs.ends.refused refl in (is.order, is.why, is.is_requested, is.cause, is.message)

-- the outcomes of runs mean the headline
pub refuted_headline : OutcomesMeanHeadline → (requested : Option Order) (before after : Views) (s : Status)
    → RunEnds stitch requested before after s
    → ((RoutesLeast requested before after s → ⊥) → ⊥) × ((ChecksRightly requested before s → ⊥) → ⊥)
refuted_headline law requested before after s ends =
    (λ never. never (law requested before after s ends).0, λ never. never (law requested before after s ends).1)

-- the orders of names, each name in its place
pub known_orders : (three : RouteNames) (two : FileNames) (source target : Meaning)
    → (check_order three source ≡ record {
      drawing = three.drawing.now;
      file = three.design.now;
      cert = three.cert.now;
      format = source;
    })
    × (sewing_order three source ≡ record { drawing = three.drawing.now; out = three.design.now; cert = three.cert.now; format = source })
    × (rewrite_order two source target (split ∷ []) ≡ record {
      input = two.input.now;
      output = two.output.now;
      source = source;
      target = target;
      changes = split ∷ [];
    })
known_orders three two source target = (refl, refl, refl)

-- the changes that flags and edits request, and edits of which each is one
pub known_change_list : (words : _) → (change_list (changes.Refits true true) ≡ split ∷ cut ∷ [])
    × (change_list (changes.Refits false true) ≡ cut ∷ [])
    × (change_list (changes.Edits words) ≡ unwrap_or (parsed_edits (map (λ word. string_bytes word) words.now)) [])
known_change_list words = (refl, refl, refl)

pub known_valid_changes : (words : _) → AreValidChanges (changes.Refits true false)
    × (AreValidChanges (changes.Edits words) → AreEdits (map (λ word. string_bytes word) words.now))
known_valid_changes words = (tt, λ are. are)

pub known_refits : (refit_change mode.Split ≡ split) × (refit_change mode.Cut ≡ cut)
known_refits = (refl, refl)

-- an edit in place leaves the edited design, or is refused with its fault
pub known_edit : (old new : DesignValue) (why : ChangeFault)
    → (IsEditResult {T = ℕ} 12 (move (motion.Turn 1)) old (Ok 0) new
    → ◌≡◌ {A = Result DesignValue ChangeFault} (Ok new) (moved (motion.Turn 1) old))
    × (IsEditResult {T = ℕ} 12 (move (motion.Turn 1)) old (Err why) new
    → ◌≡◌ {A = Result DesignValue ChangeFault} (Err why) (moved (motion.Turn 1) old))
known_edit old new why = (λ is. is, λ is. is)

-- the failure of a refused change has its text, and a lack of memory is one
pub known_change_failure : (input output text : List ℕ)
    → (IsChangeFailure input output (change_failure.Refused (change.MovedOut 7)) (failure.Refused text)
    → text ≡ change_text input output (change.MovedOut 7))
    × (IsChangeFailure input output (change_failure.Refused (change.MovedOut 7)) failure.BadArguments → ⊥)
    × (IsChangeFailure input output change_failure.Memory (failure.Refused text) → failure.Refused text ≡ failure.Memory)
known_change_failure input output text = (λ is. is, λ is. is, λ is. is)

-- an encoded design is written, read again and within the limit, and the product is its file with the report
pub known_encoded : (name : List ℕ) (target : Meaning) (d : DesignValue) (product : ProductValue)
    → IsEncodeResult name target d (Ok product)
    → (out : List ℕ) × (target.writes d ≡ Ok out) × RoundTrips target d out × MovesWithin target out
    × (product ≡ one_file_product name out (written_report (counts_of d)))
known_encoded name target d product is = (is.out, is.written, is.again, is.within, is.made)

-- a design that can't be encoded is refused with the text about its fault
pub known_not_encoded : (name text : List ℕ) (target : Meaning) (d : DesignValue) → IsEncodeResult name target d (Err text)
    → (fault : WriteFault) × (target.writes d ≡ Err fault) × (text ≡ write_fault_text name target.limit fault)
known_not_encoded name text target d is = (is.fault, is.refuses, is.is)

pub known_unwritten : (name : List ℕ) (m : Meaning) (d : DesignValue) (product : ProductValue)
    → IsEncodeResult name (record m { writes = λ design. Err (write.FloatTooLong 1) }) d (Ok product) → ⊥
known_unwritten name m d product is = no_bytes is.out is.written
  where
    no_bytes : (bytes : List ℕ) → ◌≡◌ {A = Result (List ℕ) WriteFault} (Err (write.FloatTooLong 1)) (Ok bytes) → ⊥
    no_bytes bytes same = cc
