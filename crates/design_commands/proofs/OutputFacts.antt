-- Which formats have thumbnails, and a design that none of them writes.
use Rattle.std.proofs.Common.{◌≡◌, ◌||◌, ℕ, List, Ok, Err, true, false, codes, ap}
use Rattle.std.specs.Prelude.{bytes_eq}
use Rattle.design_model.specs.Designs.{DesignValue}
use Rattle.format_traits.specs.declared.fault.WriteFault.TheVariants as fault
use Rattle.format_traits.specs.Meanings.{Meaning}
use Rattle.program_shell.specs.Products.{ProductValue, one_file_product}
use Rattle.design_commands.specs.DesignOutputs.{IsPicturedOutput, has_thumbnails, IsDesignOutput, IsUnwritableText}
use Rattle.format_traits.specs.Laws.{RoundTrips, MovesWithin}
use Rattle.program_texts.specs.DesignReports.{written_report}
use Rattle.design_model.specs.Counts.{counts_of}
use Rattle.thumbnails.specs.Redrawings.{MayBeRedrawn, with_thumbnails_of}
use Rattle.program_texts.specs.DesignTexts.{write_fault_text}

-- A format by its ending.
ended : (ending : List ℕ) (m : Meaning) → m.ending ≡ ending
    → has_thumbnails m ≡ (bytes_eq ending (codes "pec") || bytes_eq ending (codes "pes"))
ended ending m is = ap (λ name. bytes_eq name (codes "pec") || bytes_eq name (codes "pes")) is

pub known_formats : (m : Meaning) → (m.ending ≡ codes "pec" → has_thumbnails m ≡ true) × (m.ending ≡ codes "pes" → has_thumbnails m ≡ true)
    × (m.ending ≡ codes "dst" → has_thumbnails m ≡ false) × (m.ending ≡ codes "exp" → has_thumbnails m ≡ false)
    × (m.ending ≡ codes "lst" → has_thumbnails m ≡ false)
known_formats m = (ended (codes "pec") m, ended (codes "pes") m, ended (codes "dst") m, ended (codes "exp") m, ended (codes "lst") m)

-- A design that can't be written has no file with thumbnails.
pub unwritten : (name : List ℕ) (m : Meaning) (d : DesignValue) (product : ProductValue) → m.writes d ≡ Err (fault.TooLong 1)
    → IsPicturedOutput name m d product → ⊥
unwritten name m d product refused is = let written : m.writes d ≡ Ok is.out = is.written in cc

-- A written design is read again and within the limit, and the report is on its acts.
pub known_output : (name : List ℕ) (m : Meaning) (d : DesignValue) (product : ProductValue) (is : IsDesignOutput name m d product)
    → (m.writes d ≡ Ok is.out) × RoundTrips m d is.out × MovesWithin m is.out
    × (product ≡ one_file_product name is.out (written_report (counts_of d)))
known_output name m d product is = (is.written, is.again, is.within, is.made)

-- With thumbnails its file has them in place of the blank ones, and is read as that without them.
pub known_pictured : (name : List ℕ) (m : Meaning) (d : DesignValue) (product : ProductValue) (is : IsPicturedOutput name m d product)
    → (m.writes d ≡ Ok is.out) × RoundTrips m d is.out × MovesWithin m is.out × MayBeRedrawn m d is.out
    × (product ≡ one_file_product name (with_thumbnails_of d is.out) (written_report (counts_of d)))
known_pictured name m d product is = (is.written, is.again, is.within, is.redrawn, is.made)

-- One that isn't written is refused by its format, for that fault.
pub known_unwritable : (name : List ℕ) (m : Meaning) (d : DesignValue) (text : List ℕ) (is : IsUnwritableText name m d text)
    → (m.writes d ≡ Err is.fault) × (text ≡ write_fault_text name m.limit is.fault)
known_unwritable name m d text is = (is.refuses, is.is)
