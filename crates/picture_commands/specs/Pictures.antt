-- The picture of the design in a file of a format.
use Rattle.std.specs.Prelude.{◌≡◌, ℕ, List, [], Option, Some, None, Result, Ok, Err}
use Rattle.design_model.specs.Designs.{DesignValue}
use Rattle.design_picture.specs.declared.hoop.Hoop.{Hoop}
use Rattle.design_picture.specs.Pictures.{picture_of}
use Rattle.design_picture.specs.PlainPictures.{plain_picture_of}
use Rattle.format_traits.specs.declared.fault.ReadFault.{ReadFault}
use Rattle.format_traits.specs.declared.loaded.Loaded.{Loaded}
use Rattle.format_traits.specs.Meanings.{Meaning}
use Rattle.picture_parts.specs.declared.sizes.PictureSize.{PictureSize}
use Rattle.program_shell.specs.FileTexts.{read_fault_text}
use Rattle.program_shell.specs.Plans.{Plan, accepts, reads, refuses}
use Rattle.program_shell.specs.Products.{one_file_product}

-- An order: the picture of the design in a file of a format.
pub record DesignPictureOrder : Type 0 where
  pub format : Meaning
  pub input : List ℕ
  pub output : List ℕ
  pub hoop : Option Hoop
  pub cloth : Option (List ℕ)
  pub size : Option PictureSize

-- The picture of a design, with its marks and the hoop if there is one, or plain on a colour.
abbrev pub picture_on : Option (List ℕ) → Option Hoop → Option PictureSize → DesignValue → List ℕ
picture_on None hoop size d = picture_of d hoop size
picture_on (Some digits) hoop size d = plain_picture_of d digits size

-- The plan for the result of reading the design: its picture is written, and a fault is refused.
abbrev pub picture_read : DesignPictureOrder → Result Loaded ReadFault → Plan
picture_read order (Ok loaded) = accepts (λ product. product
    ≡ one_file_product order.output
    (picture_on order.cloth order.hoop order.size loaded.design) [])
picture_read order (Err fault) = refuses (read_fault_text order.input fault)

-- The plan of an order: the design is read, then its picture is written.
abbrev pub design_picture_plan : DesignPictureOrder → Plan
design_picture_plan order =
    reads order.input (λ bytes. picture_read order (order.format.reads bytes))
