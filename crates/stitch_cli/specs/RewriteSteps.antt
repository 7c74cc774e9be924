-- The results of the inner steps of rewriting. No public clause refers to this file.
use Rattle.std.specs.Prelude.{◌≡◌, ℕ, List, Result, Ok, Err}
use Rattle.stitch_cli.specs.declared.change_faults.ChangeFailure.{ChangeFailure}
use Rattle.stitch_cli.specs.declared.change_faults.ChangeFailure.TheVariants as change_failure
use Rattle.design_model.specs.Counts.{counts_of}
use Rattle.design_model.specs.Designs.{DesignValue}
use Rattle.format_traits.specs.declared.fault.WriteFault.{WriteFault}
use Rattle.format_traits.specs.Laws.{MovesWithin, RoundTrips}
use Rattle.format_traits.specs.Meanings.{Meaning}
use Rattle.program_shell.specs.declared.failure.Failure.{Failure}
use Rattle.program_shell.specs.declared.failure.Failure.TheVariants as failure
use Rattle.program_shell.specs.Products.{ProductValue, one_file_product}
use Rattle.program_shell.specs.StepOutcomes.{IsRefusalWith}
use Rattle.program_texts.specs.DesignTexts.{write_fault_text}
use Rattle.stitch_cli.specs.Rewrites.{change_text}
use Rattle.program_texts.specs.DesignReports.{written_report}

-- The product of encoding a design: its file, and the report on it.
pub record IsEncodedProduct (name : List ℕ) (target : Meaning) (d : DesignValue)
    (product : ProductValue) : Type 0 where
  pub out : List ℕ
  pub written : target.writes d ≡ Ok out
  pub again : RoundTrips target d out
  pub within : MovesWithin target out
  pub made : product ≡ one_file_product name out (written_report (counts_of d))

-- The reason for which a format cannot encode a design.
pub record IsNotEncodable (name : List ℕ) (target : Meaning) (d : DesignValue)
    (text : List ℕ) : Type 0 where
  pub fault : WriteFault
  pub is : text ≡ write_fault_text name target.limit fault
  pub refuses : target.writes d ≡ Err fault

-- The result of encoding a design.
abbrev pub IsEncodeResult : List ℕ → Meaning → DesignValue → Result ProductValue (List ℕ)
    → Type 0
IsEncodeResult name target d (Ok product) = IsEncodedProduct name target d product
IsEncodeResult name target d (Err text) = IsNotEncodable name target d text

-- The failure of an order whose changes failed.
abbrev pub IsChangeFailure : (input output : List ℕ) → ChangeFailure → Failure → Type 0
IsChangeFailure input output change_failure.Memory why = why ≡ failure.Memory
IsChangeFailure input output (change_failure.Refused fault) why =
    IsRefusalWith (change_text input output fault) why
