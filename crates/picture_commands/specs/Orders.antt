-- The orders of stitch_picture, their plans, and the program.
use Rattle.std.specs.Prelude.{◌≡◌, ℕ, Bool, true, false, List, [], ◌∷◌, Option, Some, None, Result, Ok, Err, if◌then◌else◌}
use Rattle.program_texts.specs.MistakenWords.{MistakenWord}
use Rattle.program_texts.specs.CompanionUsage.{usage_with, version_line}
use Rattle.design_picture.specs.declared.hoop.Hoop.{Hoop}
use Rattle.format_traits.specs.Endings.{format_of}
use Rattle.format_traits.specs.Meanings.{Meaning}
use Rattle.program_shell.specs.Plans.{Plan, accepts}
use Rattle.program_shell.specs.Products.{report_product}
use Rattle.program_shell.specs.Programs.{Program}
use Rattle.picture_commands.specs.declared.mistake.Misfit.TheVariants as misfit
use Rattle.picture_commands.specs.DrawnPictures.{DrawnOrder, drawn_plan}
use Rattle.picture_commands.specs.Mistakes.{mistake_at}
use Rattle.picture_commands.specs.Pictures.{DesignPictureOrder, design_picture_plan}
use Rattle.picture_commands.specs.Proofs.{proof_plan}
use Rattle.picture_commands.specs.Usage.{picture_program_name, picture_usage}
use Rattle.picture_commands.specs.ParsedWords.{parsed_picture_words}
use Rattle.picture_commands.specs.Words.{ProofOrder, RequestedFile, RequestedPicture, help, picture, proof, version}

-- An order, with a case for each kind of picture. The last prints a text that depends on no file.
pub data PictureOrder : Type 0 where
  showing : DesignPictureOrder → PictureOrder
  drawing : DrawnOrder → PictureOrder
  proving : ProofOrder → PictureOrder
  telling : (text : List ℕ) → PictureOrder

-- The order for the picture of a requested file of a format.
abbrev pub order_made : RequestedFile → Meaning → DesignPictureOrder
order_made file m = record {
  format = m;
  input = file.input;
  output = file.output;
  hoop = file.hoop;
  cloth = file.cloth;
  size = file.size;
}

-- A hoop or a colour is for designs alone.
abbrev pub is_hoop_or_cloth : Option Hoop → Option (List ℕ) → Bool
is_hoop_or_cloth None None = false
is_hoop_or_cloth None (Some cloth) = true
is_hoop_or_cloth (Some hoop) cloth = true

-- The order for the picture of a requested file that is a drawing.
abbrev pub drawn_order : RequestedFile → DrawnOrder
drawn_order file =
    record { drawing = file.input; output = file.output; size = file.size }

-- The order for a requested file of no format: a drawing has no hoop and no plain picture.
abbrev pub order_without_format : RequestedFile → Option PictureOrder
order_without_format file =
    if is_hoop_or_cloth file.hoop file.cloth then None else Some (drawing (drawn_order file))

-- The order for the picture of a requested file: of a design, if its format is known, else of a
-- drawing.
abbrev pub order_with : RequestedFile → Option Meaning → Option PictureOrder
order_with file None = order_without_format file
order_with file (Some m) = Some (showing (order_made file m))

-- The order of a request, if there is one.
abbrev pub order_of_picture : List Meaning → RequestedPicture → Option PictureOrder
order_of_picture formats (picture file) = order_with file (format_of formats file.input)
order_of_picture formats (proof order) = Some (proving order)
order_of_picture formats help = Some (telling picture_usage)
order_of_picture formats version = Some (telling (version_line picture_program_name))

-- The order of parsed arguments.
abbrev pub order_of_parsed : List Meaning → Result RequestedPicture (Option MistakenWord)
    → Option PictureOrder
order_of_parsed formats (Ok requested) = order_of_picture formats requested
order_of_parsed formats (Err mistake) = None

-- The order that the arguments request, or none.
abbrev pub picture_order : List Meaning → List (List ℕ) → Option PictureOrder
picture_order formats words = order_of_parsed formats (parsed_picture_words words)

-- The mistake of a file in a hoop or on a colour, if its format isn't known: a drawing has neither.
abbrev pub design_mistake : RequestedFile → Option Meaning → Option MistakenWord
design_mistake file None = if is_hoop_or_cloth file.hoop file.cloth
    then Some (mistake_at file.input misfit.NoFormat) else None
design_mistake file (Some m) = None

-- The mistake of a request, if it has one.
abbrev pub mistake_of_picture : List Meaning → RequestedPicture → Option MistakenWord
mistake_of_picture formats (picture file) =
    design_mistake file (format_of formats file.input)
mistake_of_picture formats (proof order) = None
mistake_of_picture formats help = None
mistake_of_picture formats version = None

-- The mistake of parsed arguments.
abbrev pub mistake_of_parsed : List Meaning → Result RequestedPicture (Option MistakenWord)
    → Option MistakenWord
mistake_of_parsed formats (Ok requested) = mistake_of_picture formats requested
mistake_of_parsed formats (Err mistake) = mistake

-- The first argument that isn't understood, if there is one.
abbrev pub picture_mistake : List Meaning → List (List ℕ) → Option MistakenWord
picture_mistake formats words = mistake_of_parsed formats (parsed_picture_words words)

-- The plan of an order.
abbrev pub picture_plan : PictureOrder → Plan
picture_plan (showing order) = design_picture_plan order
picture_plan (drawing order) = drawn_plan order
picture_plan (proving order) = proof_plan order
picture_plan (telling text) = accepts (λ product. product ≡ report_product text)

-- The names of the files that an order writes.
abbrev pub picture_outputs : PictureOrder → List (List ℕ)
picture_outputs (showing order) = order.output ∷ []
picture_outputs (drawing order) = order.output ∷ []
picture_outputs (proving order) = order.output ∷ []
picture_outputs (telling text) = []

-- The program, with the usage text after a mistake in the arguments, if there is one.
abbrev pub picture_program_after : Option MistakenWord → Program PictureOrder
picture_program_after mistake = record {
  name = picture_program_name;
  usage = usage_with picture_program_name picture_usage mistake;
  plan = picture_plan;
  outputs = picture_outputs;
}
