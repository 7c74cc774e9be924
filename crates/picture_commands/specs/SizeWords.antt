-- The size of a picture among the arguments: `size=WxH`, a width and a height in whole millimetres.
use Rattle.std.specs.Prelude.{ℕ, List, Option, Some, None, Result, Ok, Err, bytes_eq, codes, if◌then◌else◌}
use Rattle.program_texts.specs.MistakenWords.{MistakenWord}
use Rattle.command_words.specs.Arguments.{natural_within}
use Rattle.design_model.specs.WholeNumbers.{parsed_whole}
use Rattle.picture_parts.specs.declared.sizes.PictureSize.{PictureSize}
use Rattle.text_parts.specs.Parts.{split_at_byte}
use Rattle.picture_commands.specs.declared.mistake.Misfit.TheVariants as misfit
use Rattle.picture_commands.specs.declared.size_words.TheConstants.{MAX_PICTURE_SIDE, MIN_PICTURE_SIDE}
use Rattle.picture_commands.specs.Mistakes.{mistake_at}

-- What follows `size=`, given the parts of an argument around the equals sign.
abbrev pub size_text_of : Option (List ℕ × List ℕ) → Option (List ℕ)
size_text_of None = None
size_text_of (Some (name, value)) = if bytes_eq name (codes "size") then Some value else None

-- What follows `size=` in an argument.
abbrev pub size_text : List ℕ → Option (List ℕ)
size_text word = size_text_of (split_at_byte 61 word)

-- The side that a text stands for, from the least to the greatest.
abbrev pub picture_side : List ℕ → Option ℕ
picture_side text = natural_within MIN_PICTURE_SIDE MAX_PICTURE_SIDE (parsed_whole text)

-- The size of two sides, if there are both.
abbrev pub size_of_sides : (width height : Option ℕ) → Option PictureSize
size_of_sides None height = None
size_of_sides (Some width) None = None
size_of_sides (Some width) (Some height) = Some (record { width = width; height = height })

-- The size of the parts around an `x`.
abbrev pub size_of_parts : Option (List ℕ × List ℕ) → Option PictureSize
size_of_parts None = None
size_of_parts (Some (width, height)) = size_of_sides (picture_side width) (picture_side height)

-- The size that a text stands for.
abbrev pub size_in_text : List ℕ → Option PictureSize
size_in_text text = size_of_parts (split_at_byte 120 text)

-- The size of an argument, if it stands for one.
abbrev pub size_if : (word : List ℕ) → Option PictureSize → Result PictureSize MistakenWord
size_if word (Some size) = Ok size
size_if word None = Err (mistake_at word misfit.NoSize)
