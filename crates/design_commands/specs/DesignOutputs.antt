-- A design as the output of a program: its file, and the report on it.
use Rattle.std.specs.Prelude.{◌≡◌, ◌||◌, ℕ, Bool, List, Result, Ok, Err, bytes_eq, codes}
use Rattle.design_model.specs.Counts.{counts_of}
use Rattle.design_model.specs.Designs.{DesignValue}
use Rattle.format_traits.specs.declared.fault.WriteFault.{WriteFault}
use Rattle.format_traits.specs.Laws.{MovesWithin, RoundTrips}
use Rattle.format_traits.specs.Meanings.{Meaning}
use Rattle.program_shell.specs.Products.{ProductValue, one_file_product}
use Rattle.program_texts.specs.DesignReports.{written_report}
use Rattle.program_texts.specs.DesignTexts.{write_fault_text}
use Rattle.thumbnails.specs.Redrawings.{MayBeRedrawn, with_thumbnails_of}

-- The product of writing a design: its file in a format, and the report on its acts. Read again,
-- the file has the same acts, and no record moves farther than the limit of the format.
pub record IsDesignOutput (name : List ℕ) (target : Meaning) (d : DesignValue)
    (product : ProductValue) : Type 0 where
  pub out : List ℕ
  pub written : target.writes d ≡ Ok out
  pub again : RoundTrips target d out
  pub within : MovesWithin target out
  pub made : product ≡ one_file_product name out (written_report (counts_of d))

-- The text about a design that the format can't hold.
pub record IsUnwritableText (name : List ℕ) (target : Meaning) (d : DesignValue)
    (text : List ℕ) : Type 0 where
  pub fault : WriteFault
  pub is : text ≡ write_fault_text name target.limit fault
  pub refuses : target.writes d ≡ Err fault

-- The result of writing a design.
abbrev pub WritesDesign : List ℕ → Meaning → DesignValue → Result ProductValue (List ℕ) → Type 0
WritesDesign name target d (Ok product) = IsDesignOutput name target d product
WritesDesign name target d (Err text) = IsUnwritableText name target d text

-- A format whose files have thumbnails.
abbrev pub has_thumbnails : Meaning → Bool
has_thumbnails m = bytes_eq m.ending (codes "pec") || bytes_eq m.ending (codes "pes")

-- The product of writing a design with its thumbnails: its file in a format, with the thumbnails in
-- place of the blank ones, and the report on its acts. The file is read as that without them, which
-- has the same acts.
pub record IsPicturedOutput (name : List ℕ) (target : Meaning) (d : DesignValue)
    (product : ProductValue) : Type 0 where
  pub out : List ℕ
  pub written : target.writes d ≡ Ok out
  pub again : RoundTrips target d out
  pub within : MovesWithin target out
  pub redrawn : MayBeRedrawn target d out
  pub made : product
      ≡ one_file_product name (with_thumbnails_of d out) (written_report (counts_of d))

-- The result of writing a design with its thumbnails.
abbrev pub WritesPictured : List ℕ → Meaning → DesignValue → Result ProductValue (List ℕ) → Type 0
WritesPictured name target d (Ok product) = IsPicturedOutput name target d product
WritesPictured name target d (Err text) = IsUnwritableText name target d text
