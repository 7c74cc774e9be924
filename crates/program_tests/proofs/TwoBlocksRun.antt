-- A run of `stitch check` over the files of the drawing of two blocks is done, and prints `yes`: all that is specified of it holds.
use Rattle.std.proofs.Common.{◌≡◌, ℕ, ◌≤◌, ◌∙◌, List, [], ◌∷◌, Option, Some, None, length, codes, inl, inr, arith, ap, refl, subst, sym}
use Rattle.design_model.specs.declared.limits.TheConstants.{MAX_FILE}
use Rattle.drawing_text.specs.DrawingText.{drawing_of}
use Rattle.drawing_text.specs.ValidTexts.{TextsDefineValidDrawings}
use Rattle.certificate_text.specs.ReadCertificates.{cert_of}
use Rattle.line_graph.specs.UniquePieces.{PiecesAreUnique}
use Rattle.outside_io.specs.Causes.{IsFileLonger}
use Rattle.outside_io.specs.Files.{Files}
use Rattle.outside_io.specs.Views.{SinkView}
use Rattle.program_shell.specs.Plans.{AttemptsRead, IsInputContent, IsInputTooLong, Refuses}
use Rattle.program_shell.specs.Products.{report_product}
use Rattle.program_shell.specs.ProgramRuns.{RunEnds}
use Rattle.program_shell.specs.RunViews.{Views}
use Rattle.program_shell.specs.declared.status.Status.TheVariants as status
use Rattle.program_tests.proofs.TwoBlocks.{cert_file, design, design_file, drawing, drawing_file, pieces_are, stemmed, tailed}
use Rattle.program_tests.proofs.TwoBlocksFacts.{after, certs, correct, known_least, known_yes_right, known_judged, words, yes_order}
use Rattle.route_verdict.specs.VerdictTheorems.{CorrectRoutesAreAccepted, YesIsLeastRedwork}
use Rattle.route_verdict.specs.Verdicts.{IsCorrectRoute}
use Rattle.route_verdict.specs.declared.sewing_ways.Sewing.TheVariants as ways
use Rattle.route_verdict.specs.declared.verdict.Verdict.{Verdict}
use Rattle.route_verdict.specs.declared.verdict.Reason.{Reason}
use Rattle.route_verdict.specs.declared.verdict.Verdict.TheVariants as verdict
use Rattle.stitch_cli.specs.Checks.{CheckOrder, IsCheckFailed, IsCheckPassed, check_cert, check_design, check_drawing, check_plan}
use Rattle.stitch_cli.specs.Commands.{Order, checking, sewing, stitch}
use Rattle.stitch_cli.specs.Headline.{IsYesRight}
use Rattle.stitch_cli.specs.Sewings.{SewingOrder}
use Rattle.stitch_cli.specs.StitchRuns.{IsStitchRun}
use Rattle.stitch_text.specs.Format.{list_meaning}

-- the views of a run that changes no file and reports nothing
abbrev sink : List ℕ → SinkView
sink bytes = record { taken = Some bytes; faults = 0 }

abbrev views : List ℕ → Views
views printed = record { store = record { files = Some after; faults = 0; blame = None }; out = sink printed; err = sink [] }

-- a file that is there is read, as it is
same_files : (a b : Files) → ◌≡◌ {A = Option Files} (Some a) (Some b) → a ≡ b
same_files a b is = cc

same_bytes : (a b : List ℕ) → ◌≡◌ {A = Option (List ℕ)} (Some a) (Some b) → a ≡ b
same_bytes a b is = cc

held : (name bytes : List ℕ) → after name ≡ Some bytes → length bytes ≤ MAX_FILE → IsInputContent (Some after) name bytes
held name bytes is short = record {
  held = λ visible. λ same. subst (λ (files : Files). files name ≡ Some bytes) (same_files after visible same) is;
  short = short;
}

read_is : (name file bytes : List ℕ) → after name ≡ Some file → IsInputContent (Some after) name bytes → bytes ≡ file
read_is name file bytes is content = same_bytes bytes file (sym (content.held after refl) ∙ is)

not_long : (name file : List ℕ) → after name ≡ Some file → length file ≤ MAX_FILE → IsInputTooLong (Some after) name → ⊥
not_long name file is short long =
    longer (subst (λ (content : Option (List ℕ)). IsFileLonger content MAX_FILE) is (long after refl))
  where
    longer : IsFileLonger (Some file) MAX_FILE → ⊥
    longer more = omega (arith, short, more)

-- each file that the plan reads is there
attempted_cert : (name : List ℕ) → AttemptsRead (check_design yes_order drawing (list_meaning.reads design_file)) (Some after) name
    → (bytes : List ℕ) × (after name ≡ Some bytes)
attempted_cert name (inl is) = (cert_file, ap after is)
attempted_cert name (inr (bytes, content, later)) = absurd (none (subst (λ (b : List ℕ). AttemptsRead (check_cert yes_order drawing design
    (cert_of b)) (Some after) name) (read_is (codes "two.cert") cert_file bytes refl content) later))
  where
    none : AttemptsRead (check_cert yes_order drawing design (cert_of cert_file)) (Some after) name → ⊥
    none never = never

attempted_design : (name : List ℕ) → AttemptsRead (check_drawing yes_order (drawing_of drawing_file)) (Some after) name
    → (bytes : List ℕ) × (after name ≡ Some bytes)
attempted_design name (inl is) = (design_file, ap after is)
attempted_design name (inr (bytes, content, later)) = attempted_cert name (subst (λ (b : List ℕ). AttemptsRead (check_design yes_order
    drawing (list_meaning.reads b)) (Some after) name) (read_is (codes "two.lst") design_file bytes refl content) later)

attempted : (name : List ℕ) → AttemptsRead (check_plan yes_order) (Some after) name → (bytes : List ℕ) × (after name ≡ Some bytes)
attempted name (inl is) = (drawing_file, ap after is)
attempted name (inr (bytes, content, later)) = attempted_design name (subst (λ (b : List ℕ). AttemptsRead (check_drawing yes_order
    (drawing_of b)) (Some after) name) (read_is (codes "two.rw") drawing_file bytes refl content) later)

-- what the order and the verdict aren't
same_order : (order : Order) → ◌≡◌ {A = Option Order} (Some (checking yes_order)) (Some order) → checking yes_order ≡ order
same_order order is = cc

same_check : (order : CheckOrder) → ◌≡◌ {A = Option Order} (Some (checking yes_order)) (Some (checking order)) → yes_order ≡ order
same_check order is = cc

not_sewing : (order : SewingOrder) → ◌≡◌ {A = Option Order} (Some (checking yes_order)) (Some (sewing ways.Route order)) → ⊥
not_sewing order is = cc

not_yes : (reason : Reason) → ◌≡◌ {A = Verdict} (verdict.No reason) verdict.Yes → ⊥
not_yes reason is = cc

not_there : (bytes : List ℕ) → ◌≡◌ {A = Option (List ℕ)} None (Some bytes) → ⊥
not_there bytes is = cc

-- what the theorems make of it
module _ (valid : TextsDefineValidDrawings) (accepted : CorrectRoutesAreAccepted) (redwork : YesIsLeastRedwork)
    (unique : PiecesAreUnique) where
  -- the plan doesn't refuse the files
  not_failed : (why : List ℕ) → IsCheckFailed drawing design certs why → ⊥
  not_failed why is = not_yes is.reason (is.verdict.is.exact.1
      (subst (λ (pieces : List (List ℕ)). IsCorrectRoute drawing pieces design certs)
      (unique drawing (tailed ∷ stemmed ∷ []) is.verdict.pieces pieces_are is.verdict.is.pieces_are) correct))

  cert_kept : (why : List ℕ) → Refuses (check_design yes_order drawing (list_meaning.reads design_file)) (Some after) why → ⊥
  cert_kept why (inl (is, long)) = not_long (codes "two.cert") cert_file refl (omega arith) long
  cert_kept why (inr (bytes, content, refused)) = not_failed why (subst (λ (b : List ℕ). Refuses (check_cert yes_order drawing design
      (cert_of b)) (Some after) why) (read_is (codes "two.cert") cert_file bytes refl content) refused)

  design_kept : (why : List ℕ) → Refuses (check_drawing yes_order (drawing_of drawing_file)) (Some after) why → ⊥
  design_kept why (inl (is, long)) = not_long (codes "two.lst") design_file refl (omega arith) long
  design_kept why (inr (bytes, content, refused)) = cert_kept why (subst (λ (b : List ℕ). Refuses (check_design yes_order drawing
      (list_meaning.reads b)) (Some after) why) (read_is (codes "two.lst") design_file bytes refl content) refused)

  kept : (why : List ℕ) → Refuses (check_plan yes_order) (Some after) why → ⊥
  kept why (inl (is, long)) = not_long (codes "two.rw") drawing_file refl (omega arith) long
  kept why (inr (bytes, content, refused)) = design_kept why (subst (λ (b : List ℕ). Refuses (check_drawing yes_order (drawing_of b))
      (Some after) why) (read_is (codes "two.rw") drawing_file bytes refl content) refused)

  passed : IsCheckPassed drawing design certs (report_product (codes "yes\n"))
  passed = record {
    verdict = known_judged valid accepted redwork;
    least = known_least valid accepted redwork;
    made = refl;
  }

  ends : RunEnds stitch (Some (checking yes_order)) (views []) (views (codes "yes\n")) status.Done
  ends = record {
    done = λ is. record {
      order = checking yes_order;
      is_requested = refl;
      product = report_product (codes "yes\n");
      made = (
        drawing_file,
        held (codes "two.rw") drawing_file refl (omega arith),
        (
          design_file,
          held (codes "two.lst") design_file refl (omega arith),
          (cert_file, held (codes "two.cert") cert_file refl (omega arith), passed),
        ),
      );
      wrote = record { held = tt; others = λ name. λ none. refl; faults = refl; blame = refl };
      report = refl;
      err = refl;
    };
    refused = λ is. absurd (cc);
    usage = λ is. absurd (cc);
    fault = λ is. absurd (cc);
    memory = λ is. absurd (cc);
    others = λ name. λ none. refl;
    decided = λ faultless. record {
      usage = λ none. absurd (cc);
      done = λ order. λ is. λ some. λ accepts. refl;
      refused = λ order. λ why. λ is. λ some. λ refused. absurd (kept why (subst (λ (o : Order). Refuses (stitch.plan o) (Some after) why)
          (sym (same_order order is)) refused));
      missing = λ order. λ name. λ is. λ lacks. absurd (gone name (attempted name (subst (λ (o : Order). AttemptsRead (stitch.plan o)
          (Some after) name) (sym (same_order order is)) lacks.attempted)) (lacks.lacks.missing after refl));
    };
  }
    where
      gone : (name : List ℕ) → (bytes : List ℕ) × (after name ≡ Some bytes) → after name ≡ None → ⊥
      gone name (bytes, is) none = not_there bytes (sym none ∙ is)

  pub known_check_run : IsStitchRun (words (codes "check")) (views []) (views (codes "yes\n")) status.Done
  known_check_run = record {
    ends = ends;
    routes = λ order. λ is. absurd (not_sewing order is);
    checks = λ order. λ is. λ done. λ visible. λ shown. subst (λ (files : Files). IsYesRight order files)
        (same_files after visible shown)
        (subst (λ (o : CheckOrder). IsYesRight o after) (same_check order is) (known_yes_right valid accepted redwork));
  }
