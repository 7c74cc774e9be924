-- The first argument that isn't understood, and what is said of it.
use Rattle.std.specs.Prelude.{ℕ, List, Option, Some, None, Result, Ok, Err, codes}
use Rattle.program_texts.specs.MistakenWords.{MistakenWord, mistaken}
use Rattle.drawing_commands.specs.declared.mistake.Misfit.{Misfit}
use Rattle.drawing_commands.specs.declared.mistake.Misfit.TheVariants as misfit
use Rattle.drawing_commands.specs.declared.mistake.Mistake.{Mistake}

-- What is said of an argument that isn't understood.
abbrev pub misfit_text : Misfit → List ℕ
misfit_text misfit.NotACommand = codes "not a command"
misfit_text misfit.NoFile = codes "needs a file"
misfit_text misfit.NotAFileName = codes "not a file name"
misfit_text misfit.IsInput = codes "is the input"
misfit_text misfit.NoGap = codes "needs a gap"
misfit_text misfit.GapRange = codes "from 0 to 100"
misfit_text misfit.LengthRange = codes "from 1 to 2047"
misfit_text misfit.LeewayRange = codes "from 0 to 100"
misfit_text misfit.NoEdit = codes "needs an edit"
misfit_text misfit.NotAnEdit = codes "not an edit"
misfit_text misfit.NotUnderstood = codes "not understood"

-- A mistake by its argument and its reason.
abbrev pub mistake_at : List ℕ → Misfit → MistakenWord
mistake_at word why = mistaken word (misfit_text why)

-- A mistake of the program, with its texts as bytes.
abbrev pub mistaken_word : Mistake → MistakenWord
mistaken_word mistake = mistake_at mistake.word.now mistake.why

-- A value, if no argument is mistaken for an edit.
abbrev pub unless_mistaken : {V : Type 0} → V → Option (List ℕ) → Result V MistakenWord
unless_mistaken made None = Ok made
unless_mistaken made (Some word) = Err (mistake_at word misfit.NotAnEdit)
