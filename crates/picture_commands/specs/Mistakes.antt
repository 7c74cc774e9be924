-- The first argument that isn't understood, and what is said of it.
use Rattle.std.specs.Prelude.{ℕ, List, codes}
use Rattle.program_texts.specs.MistakenWords.{MistakenWord, mistaken}
use Rattle.picture_commands.specs.declared.mistake.Misfit.{Misfit}
use Rattle.picture_commands.specs.declared.mistake.Misfit.TheVariants as misfit
use Rattle.picture_commands.specs.declared.mistake.Mistake.{Mistake}

-- What is said of an argument that isn't understood.
abbrev pub misfit_text : Misfit → List ℕ
misfit_text misfit.NotAFileName = codes "not a file name"
misfit_text misfit.NoPicture = codes "needs the name of a picture"
misfit_text misfit.NotAPicture = codes "needs the ending .svg"
misfit_text misfit.IsInput = codes "is an input"
misfit_text misfit.NoFormat = codes "no format has this ending"
misfit_text misfit.SideRange = codes "from 1 to 100000"
misfit_text misfit.NoColour = codes "needs six hexadecimal digits"
misfit_text misfit.NoSize = codes "needs WxH, each from 10 to 2000"
misfit_text misfit.NotUnderstood = codes "not understood"

-- A mistake by its argument and its reason.
abbrev pub mistake_at : List ℕ → Misfit → MistakenWord
mistake_at word why = mistaken word (misfit_text why)

-- A mistake of the program, with its texts as bytes.
abbrev pub mistaken_word : Mistake → MistakenWord
mistaken_word mistake = mistake_at mistake.word.now mistake.why
