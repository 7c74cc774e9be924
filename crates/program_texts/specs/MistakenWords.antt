-- Arguments that aren't understood, and requests that are parsed until one isn't.
use Rattle.std.specs.Prelude.{ℕ, List, Option, Some, Result, Ok, Err}

-- An argument that isn't understood, and what is said of it.
pub record MistakenWord : Type 0 where
  pub word : List ℕ
  pub why : List ℕ

-- An argument with what is said of it.
abbrev pub mistaken : (word why : List ℕ) → MistakenWord
mistaken word why = record { word = word; why = why }

-- What follows from a value, if there is one.
abbrev pub then_with : {V W : Type 0} → Result V MistakenWord → (V → Result W MistakenWord)
    → Result W MistakenWord
then_with (Ok value) next = next value
then_with (Err mistake) next = Err mistake

-- A mistake, which there may also be without an argument.
abbrev pub with_some_mistake : {V : Type 0} → Result V MistakenWord
    → Result V (Option MistakenWord)
with_some_mistake (Ok requested) = Ok requested
with_some_mistake (Err mistake) = Err (Some mistake)
