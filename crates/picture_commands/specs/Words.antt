-- What the arguments of stitch_picture request: the picture of a file, with the two sides of a
-- hoop, a colour or neither, the picture of a proof, each with a size or none, the usage text or
-- the version.
use Rattle.std.specs.Prelude.{ℕ, List, Option, option_map}
use Rattle.design_picture.specs.declared.hoop.Hoop.{Hoop}
use Rattle.outside_io.specs.Files.{IsFileName}
use Rattle.picture_parts.specs.declared.sizes.PictureSize.{PictureSize}
use Rattle.picture_commands.specs.declared.words.Cloth.{Cloth}
use Rattle.picture_commands.specs.declared.words.FileNames.{FileNames}
use Rattle.picture_commands.specs.declared.words.PictureRequest.{PictureRequest}
use Rattle.picture_commands.specs.declared.words.PictureRequest.TheVariants as request
use Rattle.picture_commands.specs.declared.words.ProofNames.{ProofNames}

-- A file whose picture is requested: its name, the name of the picture, the hoop or none, or the
-- colour of a plain picture, and a size or none.
pub record RequestedFile : Type 0 where
  pub input : List ℕ
  pub output : List ℕ
  pub hoop : Option Hoop
  pub cloth : Option (List ℕ)
  pub size : Option PictureSize

-- A proof that is requested: the names of the drawing, of its certificate and of the picture, and a
-- size or none.
pub record ProofOrder : Type 0 where
  pub drawing : List ℕ
  pub cert : List ℕ
  pub output : List ℕ
  pub size : Option PictureSize

-- A request: the picture of a file or of a proof, the usage text, or the version.
pub data RequestedPicture : Type 0 where
  picture : RequestedFile → RequestedPicture
  proof : ProofOrder → RequestedPicture
  help : RequestedPicture
  version : RequestedPicture

-- The digits of a colour, as bytes.
abbrev pub cloth_digits : Cloth → List ℕ
cloth_digits cloth = cloth.digits.now

-- The names for the picture of a file, as bytes.
abbrev pub requested_file : FileNames → RequestedFile
requested_file names = record {
  input = names.input.now;
  output = names.output.now;
  hoop = names.hoop;
  cloth = option_map cloth_digits names.cloth;
  size = names.size;
}

-- The names for the picture of a proof, as bytes.
abbrev pub proof_order : ProofNames → ProofOrder
proof_order names = record {
  drawing = names.drawing.now;
  cert = names.cert.now;
  output = names.output.now;
  size = names.size;
}

-- A request of the program, with its names as bytes.
abbrev pub picture_request : PictureRequest → RequestedPicture
picture_request (request.File names) = picture (requested_file names)
picture_request (request.Proof names) = proof (proof_order names)
picture_request request.Help = help
picture_request request.Version = version

-- The names for the picture of a file are file names.
pub record ArePictureNames (names : FileNames) : Type 0 where
  pub input : IsFileName names.input.now
  pub output : IsFileName names.output.now

-- The names for the picture of a proof are file names.
pub record AreProofNames (names : ProofNames) : Type 0 where
  pub drawing : IsFileName names.drawing.now
  pub cert : IsFileName names.cert.now
  pub output : IsFileName names.output.now

-- The names of a request are file names.
abbrev pub AreGoodNames : PictureRequest → Type 0
AreGoodNames (request.File names) = ArePictureNames names
AreGoodNames (request.Proof names) = AreProofNames names
AreGoodNames request.Help = Unit {0}
AreGoodNames request.Version = Unit {0}
