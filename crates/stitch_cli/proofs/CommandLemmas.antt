-- What is proved of each command: its plan decides, and the outputs of its products are the files that it writes.
use Rattle.std.proofs.Common.{◌≡◌, ◌∷◌, [], ℕ, Bool, true, false, List, Result, Ok, Err, ap, sym, ◌∙◌}
use Rattle.std.specs.Prelude.{nat_lt}
use Rattle.stitch_cli.proofs.Names.{PieceCert, cert_of, DesignValue, drawing_of, Loaded, Meaning, DrawingValue, ProductValue, CheckOrder, IsCheckFailed, IsCheckPassed, check_cert, check_design, check_drawing, check_plan, Order, outputs_of, plan_of, stitch, checking, hooping, migrating, rewriting, sampling, sewing, showing, tracing, hoop_fitted, hoop_read, IsMigrated, IsRewriteResult, rewrite_read, IsSampleProduct, IsSewnProduct, SewingOrder, SewnFiles, sewing_by_limit, sewing_read, IsSewnBy, show_read, trace_read, drawing_as2, verdict_of, IsCheckResult, migrate_read, sewing_outputs, sewing_plan, IsTraced, trace_made, traced, IsSoundPlan, accepts_sound, named, parses_sound, program_sound, refuses_sound, satisfies_sound}
use Rattle.hoop_check.specs.declared.fitting.Fit.{Fit}
use Rattle.hoop_check.specs.declared.fitting.Fit.TheVariants as fit
use Rattle.hoop_check.specs.Fits.{fit_of}
use Rattle.line_graph.specs.UniquePieces.{PiecesAreUnique}
use Rattle.program_shell.specs.ExactPlans.{IsSoundProgram}
use Rattle.route_verdict.specs.declared.verdict.Verdict.TheVariants as verdict
use Rattle.sample_drawings.specs.Samples.{sample_drawing_of}
use Rattle.stitch_trace.specs.declared.trace_fault.TraceFault.{TraceFault}
use Rattle.stitch_cli.proofs.ChangeLemmas.{rewritten_not_both}

-- a verdict is not both yes and no: there is one list of the pieces
not_proved : PiecesAreUnique → (d : DrawingValue) (design : DesignValue) (certs : List PieceCert) (product : ProductValue) (why : List ℕ)
    → IsCheckPassed d design certs product → IsCheckFailed d design certs why → ⊥
not_proved one d design certs product why proved check_failed =
    let yes = proved.verdict.is in
    let no = check_failed.verdict.is in
    let same : proved.verdict.pieces ≡ check_failed.verdict.pieces =
    one d proved.verdict.pieces check_failed.verdict.pieces yes.pieces_are no.pieces_are in
    let over : verdict_of d proved.verdict.pieces design certs ≡ verdict_of d check_failed.verdict.pieces design certs =
    ap (λ pieces. verdict_of d pieces design certs) same in
    let both : verdict.Yes ≡ verdict.No check_failed.reason = yes.is ∙ over ∙ sym no.is in
    cc

sewing_sound : (Sewn : Meaning → DrawingValue → SewnFiles → Type 0) (order : SewingOrder)
    → IsSoundPlan (sewing_outputs order) (sewing_plan Sewn order)
sewing_sound Sewn order = parses_sound (sewing_outputs order) order.drawing drawing_of (sewing_read Sewn order)
    (λ d. by_limit d (nat_lt order.format.limit d.step)) (λ fault. refuses_sound (sewing_outputs order) _)
  where
    by_limit : (d : DrawingValue) (above : Bool) → IsSoundPlan (sewing_outputs order) (sewing_by_limit Sewn order d above)
    by_limit d true = refuses_sound (sewing_outputs order) _
    by_limit d false = accepts_sound (sewing_outputs order) (IsSewnProduct Sewn order d) (λ product is. named product _ is.made)

check_sound : PiecesAreUnique → (order : CheckOrder) → IsSoundPlan [] (check_plan order)
check_sound one order = parses_sound [] order.drawing drawing_of (check_drawing order) by_drawing (λ fault. refuses_sound [] _)
  where
    by_cert : (d : DrawingValue) (design : DesignValue) (certs : List PieceCert) → IsSoundPlan [] (check_cert order d design (Ok certs))
    by_cert d design certs = satisfies_sound [] (IsCheckResult d design certs) (λ product is. named product _ is.made)
        (λ product why passed failed. not_proved one d design certs product why passed failed)

    by_design : (d : DrawingValue) (loaded : Loaded) → IsSoundPlan [] (check_design order d (Ok loaded))
    by_design d loaded = parses_sound [] order.cert cert_of (check_cert order d loaded.design) (λ certs. by_cert d loaded.design certs)
        (λ number. refuses_sound [] _)

    by_drawing : (d : DrawingValue) → IsSoundPlan [] (check_drawing order (Ok d))
    by_drawing d = parses_sound [] order.file order.format.reads (check_design order d) (λ loaded. by_design d loaded)
        (λ fault. refuses_sound [] _)

hoop_sound : (f : Fit) → IsSoundPlan [] (hoop_fitted f)
hoop_sound fit.Upright = accepts_sound [] _ (λ product is. named product _ is)
hoop_sound fit.Turned = accepts_sound [] _ (λ product is. named product _ is)
hoop_sound (fit.No x y) = refuses_sound [] _

-- The plan of each order is sound.
order_sound : PiecesAreUnique → (order : Order) → IsSoundPlan (outputs_of order) (plan_of order)
order_sound one (sewing way order) = sewing_sound (IsSewnBy way) order
order_sound one (checking order) = check_sound one order
order_sound one (sampling order) = accepts_sound (order.drawing ∷ []) (IsSampleProduct order (sample_drawing_of order.number))
    (λ product is. named product _ is.made)
order_sound one (migrating order) = parses_sound (order.output ∷ []) order.input drawing_as2 (migrate_read order)
    (λ d. accepts_sound (order.output ∷ []) (IsMigrated order.output d) (λ product is. named product _ is.made))
    (λ fault. refuses_sound (order.output ∷ []) _)
order_sound one (tracing order) = parses_sound (order.drawing ∷ []) order.file order.format.reads (trace_read order)
    (λ loaded. made (traced loaded.design)) (λ fault. refuses_sound (order.drawing ∷ []) _)
  where
    made : (said : Result DrawingValue TraceFault) → IsSoundPlan (order.drawing ∷ []) (trace_made order said)
    made (Ok d) = accepts_sound (order.drawing ∷ []) (IsTraced order.drawing d) (λ product is. named product _ is)
    made (Err fault) = refuses_sound (order.drawing ∷ []) _
order_sound one (rewriting order) = parses_sound (order.output ∷ []) order.input order.source.reads (rewrite_read order)
    (λ loaded. satisfies_sound (order.output ∷ []) (IsRewriteResult order loaded) (λ product is. named product _ is.made)
    (λ product why is refused. rewritten_not_both order loaded product why is refused)) (λ fault. refuses_sound (order.output ∷ []) _)
order_sound one (showing order) = parses_sound [] order.file order.format.reads (show_read order)
    (λ loaded. accepts_sound [] _ (λ product is. named product _ is)) (λ fault. refuses_sound [] _)
order_sound one (hooping order) = parses_sound [] order.file order.format.reads (hoop_read order)
    (λ loaded. hoop_sound (fit_of loaded.design order.width order.height)) (λ fault. refuses_sound [] _)

-- The program is sound.
pub stitch_sound : PiecesAreUnique → IsSoundProgram stitch
stitch_sound one = program_sound stitch (order_sound one)
