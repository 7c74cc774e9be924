-- The request of the arguments of stitch_picture, or the first that isn't understood. The last one
-- may be a size.
use Rattle.std.specs.Prelude.{ℕ, List, [], ◌∷◌, Option, Some, None, Result, Ok, Err, bytes_eq, codes, if◌then◌else◌}
use Rattle.program_texts.specs.MistakenWords.{MistakenWord, then_with, with_some_mistake}
use Rattle.picture_parts.specs.declared.sizes.PictureSize.{PictureSize}
use Rattle.picture_commands.specs.declared.mistake.Misfit.TheVariants as misfit
use Rattle.picture_commands.specs.Mistakes.{mistake_at}
use Rattle.picture_commands.specs.Names.{cloth_if, name_or_mistake, picture_or_mistake, plain_digits, side_if, side_word, unless_input}
use Rattle.picture_commands.specs.SizeWords.{size_if, size_in_text, size_text}
use Rattle.picture_commands.specs.Words.{RequestedFile, RequestedPicture, help, picture, proof, version}

-- The file of two names, if both are file names, the second is that of a picture, and they differ.
abbrev pub file_of_names : (input output : List ℕ) → Result RequestedFile MistakenWord
file_of_names input output = then_with (name_or_mistake input) (λ source.
    then_with (picture_or_mistake output) (λ picture. then_with (unless_input source picture)
    (λ target. Ok (record {
      input = source;
      output = target;
      hoop = None;
      cloth = None;
      size = None;
    }))))

-- The request of two names.
abbrev pub parsed_file : (input output : List ℕ) → Result RequestedPicture MistakenWord
parsed_file input output = then_with (file_of_names input output) (λ file. Ok (picture file))

-- The request of three names, if all are file names, the third is that of a picture, and it differs
-- from the other two.
abbrev pub parsed_proof : (drawing cert output : List ℕ) → Result RequestedPicture MistakenWord
parsed_proof drawing cert output = then_with (name_or_mistake drawing) (λ first.
    then_with (name_or_mistake cert) (λ second. then_with (picture_or_mistake output) (λ picture.
    then_with (unless_input first picture) (λ apart. then_with (unless_input second apart)
    (λ target. Ok (proof (record {
      drawing = first;
      cert = second;
      output = target;
      size = None;
    })))))))

-- The request of two names with the two sides of a hoop.
abbrev pub parsed_in_hoop : (input output width height : List ℕ)
    → Result RequestedPicture MistakenWord
parsed_in_hoop input output width height = then_with (file_of_names input output) (λ file.
    then_with (side_if width (side_word width)) (λ w. then_with (side_if height (side_word height))
    (λ h. Ok (picture (record file { hoop = Some (record { width = w; height = h }) })))))

-- The request of two names with a colour.
abbrev pub parsed_plain : (input output word digits : List ℕ)
    → Result RequestedPicture MistakenWord
parsed_plain input output word digits = then_with (file_of_names input output) (λ file.
    then_with (cloth_if word digits) (λ cloth. Ok (picture (record file { cloth = Some cloth }))))

-- The request of three arguments, of which the third may stand for the digits of a colour.
abbrev pub parsed_by_third : (first second third : List ℕ) → Option (List ℕ)
    → Result RequestedPicture MistakenWord
parsed_by_third first second third (Some digits) = parsed_plain first second third digits
parsed_by_third first second third None = parsed_proof first second third

-- The request of three arguments without a size.
abbrev pub parsed_unsized : (first second third : List ℕ) → Result RequestedPicture MistakenWord
parsed_unsized first second third = parsed_by_third first second third (plain_digits third)

-- A request with a size.
abbrev pub with_size : PictureSize → RequestedPicture → RequestedPicture
with_size size (picture file) = picture (record file { size = Some size })
with_size size (proof order) = proof (record order { size = Some size })
with_size size help = help
with_size size version = version

-- The request of arguments, after which one stands for the text of a size.
abbrev pub parsed_sized : Result RequestedPicture MistakenWord → (word text : List ℕ)
    → Result RequestedPicture MistakenWord
parsed_sized parsed word text = then_with parsed (λ requested.
    then_with (size_if word (size_in_text text)) (λ size. Ok (with_size size requested)))

-- The request of three arguments, of which the third may have the text of a size.
abbrev pub parsed_three : (first second third : List ℕ) → Option (List ℕ)
    → Result RequestedPicture MistakenWord
parsed_three first second third (Some text) = parsed_sized (parsed_file first second) third text
parsed_three first second third None = parsed_unsized first second third

-- The request of four arguments, of which the fourth may have the text of a size.
abbrev pub parsed_four : (first second third fourth : List ℕ) → Option (List ℕ)
    → Result RequestedPicture MistakenWord
parsed_four first second third fourth (Some text) =
    parsed_sized (parsed_unsized first second third) fourth text
parsed_four first second third fourth None = parsed_in_hoop first second third fourth

-- The request of two names with the two sides of a hoop and an argument with the text of a size.
abbrev pub parsed_five : (input output width height last : List ℕ) → Option (List ℕ)
    → Result RequestedPicture MistakenWord
parsed_five input output width height last (Some text) =
    parsed_sized (parsed_in_hoop input output width height) last text
parsed_five input output width height last None = Err (mistake_at last misfit.NotUnderstood)

-- The request of one argument.
abbrev pub parsed_alone : List ℕ → Result RequestedPicture MistakenWord
parsed_alone word =
    if bytes_eq word (codes "--help") then Ok help
    else (if bytes_eq word (codes "--version") then Ok version
    else Err (mistake_at word misfit.NoPicture))

-- The request of five arguments and those after them.
abbrev pub parsed_many : (input output width height fifth : List ℕ) → List (List ℕ)
    → Result RequestedPicture MistakenWord
parsed_many input output width height fifth [] =
    parsed_five input output width height fifth (size_text fifth)
parsed_many input output width height fifth (more ∷ rest) =
    Err (mistake_at fifth misfit.NotUnderstood)

-- The request of an argument and those after it.
abbrev pub parsed_words : List ℕ → List (List ℕ) → Result RequestedPicture MistakenWord
parsed_words word [] = parsed_alone word
parsed_words input (output ∷ []) = parsed_file input output
parsed_words first (second ∷ third ∷ []) = parsed_three first second third (size_text third)
parsed_words first (second ∷ third ∷ fourth ∷ []) =
    parsed_four first second third fourth (size_text fourth)
parsed_words input (output ∷ width ∷ height ∷ fifth ∷ rest) =
    parsed_many input output width height fifth rest

-- The request of the arguments, or the first that isn't understood. Without arguments there is
-- neither.
abbrev pub parsed_picture_words : List (List ℕ) → Result RequestedPicture (Option MistakenWord)
parsed_picture_words [] = Err None
parsed_picture_words (word ∷ words) = with_some_mistake (parsed_words word words)
