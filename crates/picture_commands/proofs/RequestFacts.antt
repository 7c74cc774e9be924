-- The requests of stitch_picture as values, and that their names are file names.
use Rattle.std.proofs.Common.{◌≡◌, option_map, refl}
use Rattle.outside_io.specs.Files.{IsFileName}
use Rattle.picture_commands.specs.Words.{AreGoodNames, help, picture, picture_request, proof, version}
use Rattle.picture_commands.specs.declared.words.FileNames.{FileNames}
use Rattle.picture_commands.specs.declared.words.PictureRequest.TheVariants as request
use Rattle.picture_commands.specs.declared.words.ProofNames.{ProofNames}

-- each request has its names as bytes
pub known_requests : (names : FileNames) (three : ProofNames) → (picture_request (request.File names) ≡ picture (record {
  input = names.input.now;
  output = names.output.now;
  hoop = names.hoop;
  cloth = option_map (λ cloth. cloth.digits.now) names.cloth;
  size = names.size;
}))
    × (picture_request (request.Proof three)
    ≡ proof (record { drawing = three.drawing.now; cert = three.cert.now; output = three.output.now; size = three.size }))
    × (picture_request request.Help ≡ help) × (picture_request request.Version ≡ version)
known_requests names three = (refl, refl, refl, refl)

-- all names of a request are file names
pub known_good_names : (names : FileNames) → AreGoodNames (request.File names)
    → IsFileName names.input.now × IsFileName names.output.now
known_good_names names are = (are.input, are.output)

pub known_good_proof : (three : ProofNames) → AreGoodNames (request.Proof three)
    → IsFileName three.drawing.now × IsFileName three.cert.now × IsFileName three.output.now
known_good_proof three are = (are.drawing, are.cert, are.output)
