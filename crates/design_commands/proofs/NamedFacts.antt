-- The requests of stitch_design by their names, and what is written.
use Rattle.std.proofs.Common.{◌≡◌, ℕ, Bool, List, Ok, Err, codes, length, refl, arith}
use Rattle.command_words.specs.declared.names.FileNames.{FileNames}
use Rattle.design_model.specs.Counts.{counts_of}
use Rattle.design_model.specs.Designs.{DesignValue}
use Rattle.design_review.specs.declared.limits.ReviewLimits.{ReviewLimits}
use Rattle.design_commands.specs.DesignOutputs.{WritesDesign, WritesPictured}
use Rattle.design_commands.specs.EditRequests.{compare, help, list, look, palette, pass, version}
use Rattle.design_commands.specs.Mistakes.{mistaken_word}
use Rattle.design_commands.specs.Requests.{HasDesignNames, requested_design}
use Rattle.design_commands.specs.declared.mistake.Misfit.TheVariants as misfit
use Rattle.design_commands.specs.declared.mistake.Mistake.{Mistake}
use Rattle.design_commands.specs.declared.requests.DesignRequest.TheVariants as request
use Rattle.format_traits.specs.Laws.{MovesWithin, RoundTrips}
use Rattle.format_traits.specs.declared.fault.WriteFault.{WriteFault}
use Rattle.outside_io.specs.Files.{IsFileName}
use Rattle.program_shell.specs.Products.{ProductValue, one_file_product}
use Rattle.program_texts.specs.DesignReports.{written_report}
use Rattle.program_texts.specs.DesignTexts.{write_fault_text}
use Rattle.program_texts.specs.MistakenWords.{mistaken}
use Rattle.thumbnails.specs.Redrawings.{with_thumbnails_of}
use Rattle.design_commands.proofs.Names.{Meaning}

-- the names of a request are those of its arguments
pub known_requests : (names : FileNames) (limits : ReviewLimits) (threads : Bool)
    → (requested_design (request.Look names.input limits) ≡ look names.input.now limits)
    × (requested_design (request.Pass names.input limits) ≡ pass names.input.now limits)
    × (requested_design (request.Compare names.output names.input threads) ≡ compare names.output.now names.input.now threads)
    × (requested_design (request.Threads names.output) ≡ list names.output.now) × (requested_design request.Palette ≡ palette)
    × (requested_design request.Help ≡ help) × (requested_design request.Version ≡ version)
known_requests names limits threads = (refl, refl, refl, refl, refl, refl, refl)

-- a file's name has a byte and at most 4096
named : (name : List ℕ) → IsFileName name → (length name ≡ 0 → ⊥) × (length name ≡ 4097 → ⊥)
named name is = (λ none. omega (arith, none, is.some), λ long. omega (arith, long, is.short))

pub known_names : (names : FileNames) (limits : ReviewLimits) (threads : Bool)
    → (HasDesignNames (request.Look names.input limits) → length names.input.now ≡ 0 → ⊥)
    × (HasDesignNames (request.Pass names.input limits) → length names.input.now ≡ 0 → ⊥)
    × (HasDesignNames (request.Compare names.output names.input threads) → (length names.output.now ≡ 0 → ⊥)
    × (length names.input.now ≡ 4097 → ⊥))
    × (HasDesignNames (request.Threads names.output) → length names.output.now ≡ 4097 → ⊥)
known_names names limits threads = (
  λ has. (named names.input.now has).0,
  λ has. (named names.input.now has).0,
  λ has. ((named names.output.now has.0).0, (named names.input.now has.1).1),
  λ has. (named names.output.now has).1,
)

-- a mistake has its argument and the reason's text
pub known_mistake : (m : Mistake) → mistaken_word (record m { why = misfit.NoFile }) ≡ mistaken m.word.now (codes "needs a file")
known_mistake m = refl

-- A written design: its file in the format, which is read again and keeps the limit, and the report.
pub known_written : (name : List ℕ) (m : Meaning) (d : DesignValue) (product : ProductValue) → WritesDesign name m d (Ok product)
    → (out : List ℕ) × (m.writes d ≡ Ok out) × RoundTrips m d out × MovesWithin m out
    × (product ≡ one_file_product name out (written_report (counts_of d)))
known_written name m d product is = (is.out, is.written, is.again, is.within, is.made)

pub known_pictured : (name : List ℕ) (m : Meaning) (d : DesignValue) (product : ProductValue) → WritesPictured name m d (Ok product)
    → (out : List ℕ) × (m.writes d ≡ Ok out) × RoundTrips m d out × MovesWithin m out
    × (product ≡ one_file_product name (with_thumbnails_of d out) (written_report (counts_of d)))
known_pictured name m d product is = (is.out, is.written, is.again, is.within, is.made)

-- a design is refused with the fault of its format alone
pub known_unwritten : (name : List ℕ) (m : Meaning) (d : DesignValue) (text : List ℕ) → WritesDesign name m d (Err text)
    → (f : WriteFault) × (m.writes d ≡ Err f) × (text ≡ write_fault_text name m.limit f)
known_unwritten name m d text is = (is.fault, is.refuses, is.is)

pub known_unpictured : (name : List ℕ) (m : Meaning) (d : DesignValue) (text : List ℕ) → WritesPictured name m d (Err text)
    → (f : WriteFault) × (m.writes d ≡ Err f) × (text ≡ write_fault_text name m.limit f)
known_unpictured name m d text is = (is.fault, is.refuses, is.is)
