-- Which files a run leaves as they were.
use Rattle.std.proofs.Common.{◌≡◌, ◌++◌, ◌∷◌, [], ℕ, List, Option, Some, None, ap, subst, arith}
use Rattle.program_shell.proofs.Names.{nat_tests, Files, Failure, Status, IsSoundProgram, Plan, ChangesOnlyFiles, IsNoneOf, ProductValue, output_names, Program, Views, KeepsOtherFiles, Delivers, all, but_report, up_to, IsFailureOf}
use Rattle.program_shell.proofs.DeliveryLemmas.{none_before}
use Rattle.program_shell.proofs.RunOutcomes.{IsRunOutcome, halted, made}

-- fewer files change among fewer names
changes_fewer : (old new : Option Files) (few many : List (List ℕ)) → ((name : List ℕ) → IsNoneOf many name → IsNoneOf few name)
    → ChangesOnlyFiles few old new → ChangesOnlyFiles many old new
changes_fewer old new few many h1 h2 = grind (arith, nat_tests)

-- files that are the same change nowhere
changes_none : (old new : Option Files) (names : List (List ℕ)) → new ≡ old → ChangesOnlyFiles names old new
changes_none old new names h1 = grind (arith, nat_tests)

-- A failed plan changes no file.
halted_files : (plan : Plan) (before after : Views) (why : Failure) → IsFailureOf plan before.store after.store why
    → after.store.files ≡ before.store.files
halted_files plan before after why h1 = grind (arith, nat_tests)

-- a delivery changes outputs alone
delivered_files : (program : List ℕ) (written : List (List ℕ)) (product : ProductValue) (before after : Views) (s : Status)
    → output_names product.outputs ≡ written → Delivers program product before after s
    → ChangesOnlyFiles written before.store.files after.store.files
delivered_files program written product before after s names (all done wrote report err) =
    subst (λ (ns : List (List ℕ)). ChangesOnlyFiles ns before.store.files after.store.files) names wrote.others
delivered_files program written product before after s names (up_to name wrote out tells) =
    subst (λ (ns : List (List ℕ)). ChangesOnlyFiles ns before.store.files after.store.files) names
    (changes_fewer before.store.files after.store.files (output_names (wrote.done ++ wrote.lost ∷ [])) (output_names product.outputs)
    (λ other none. none_before wrote.done wrote.lost wrote.left product.outputs other wrote.split none) wrote.others)
delivered_files program written product before after s names (but_report wrote broke tells) =
    subst (λ (ns : List (List ℕ)). ChangesOnlyFiles ns before.store.files after.store.files) names wrote.others

-- files that the order doesn't write stay
pub keeps_others : {Order : Type 0} (program : Program Order) → IsSoundProgram program → (requested : Option Order)
    (before after : Views) (s : Status) → IsRunOutcome program requested before after s → KeepsOtherFiles program requested before after
keeps_others program sound None before after s reports = ap (λ s. s.files) reports.store
keeps_others program sound (Some order) before after s (made product makes delivers) =
    delivered_files program.name (program.outputs order) product before after s
    (sound.outputs order before.store.files product makes) delivers
keeps_others program sound (Some order) before after s (halted why halts out tells) =
    changes_none before.store.files after.store.files (program.outputs order) (halted_files (program.plan order) before after why halts)
