-- Edits of a drawing, one after another.
use Rattle.std.proofs.Common.{◌≡◌, ◌∙◌, ℕ, ◌+◌, Bool, true, false, List, [], ◌∷◌, Option, Some, None, IfSome, IsSome, Result, Ok, Err, ap, sym, subst}
use Rattle.drawing_commands.proofs.Names.{unwrap_or, first_parsed, later_parsed, with_first_edit, DrawingEdit, DrawingValue, BadEdit, bad_edit_is_out_of_memory, edits_applied, drawing_edits_of, parsed_drawing_edit, parsed_drawing_edits, and_then, at_edit}
use Rattle.design_model.specs.OutOfMemory.{IsSpecified, UnlessOutOfMemory}
use Rattle.drawing_edits.specs.declared.edit_fault.EditFault.{EditFault}
use Rattle.drawing_edits.specs.EditedDrawings.{edited_drawing}
use Rattle.drawing_edits.specs.EditFaults.{edit_is_out_of_memory}

-- the first edit is applied, and the others to what it gives
applied_first : (number : ℕ) (first : Option DrawingEdit) (later : Option (List DrawingEdit)) (d next : DrawingValue)
    → IsSome (with_first_edit first later) → IfSome first (λ one. edited_drawing one d ≡ Ok next)
    → edits_applied number (unwrap_or (with_first_edit first later) []) d ≡ edits_applied (number + 1) (unwrap_or later []) next
applied_first number (Some one) (Some edits) d next some is =
    ap (λ (r : Result DrawingValue EditFault). and_then (at_edit number r) (λ mid. edits_applied (number + 1) edits mid)) is
applied_first number (Some one) None d next some is = absurd (let no : ⊥ = cc in no)
applied_first number None later d next some is = absurd (let no : ⊥ = cc in no)

-- the bad edit of a number
abbrev bad_at : ℕ → EditFault → BadEdit
bad_at number why = record { number = number; fault = why }

refused_at : (number : ℕ) (b : Bool) (said : Result DrawingValue EditFault) (edits : List DrawingEdit) (why : EditFault)
    → UnlessOutOfMemory b (said ≡ Err why)
    → UnlessOutOfMemory b (and_then (at_edit number said) (λ mid. edits_applied (number + 1) edits mid) ≡ Err (bad_at number why))
refused_at number true said edits why out = out
refused_at number false said edits why is =
    ap (λ (r : Result DrawingValue EditFault). and_then (at_edit number r) (λ mid. edits_applied (number + 1) edits mid)) is

refused_first : (number : ℕ) (first : Option DrawingEdit) (later : Option (List DrawingEdit)) (d : DrawingValue) (why : EditFault)
    → IsSome (with_first_edit first later)
    → IfSome first (λ one. IsSpecified {A = DrawingValue} edit_is_out_of_memory (edited_drawing one d) (Err why))
    → IsSpecified bad_edit_is_out_of_memory (edits_applied number (unwrap_or (with_first_edit first later) []) d) (Err (bad_at number why))
refused_first number (Some one) (Some edits) d why some is =
    refused_at number (edit_is_out_of_memory why) (edited_drawing one d) edits why is
refused_first number (Some one) None d why some is = absurd (let no : ⊥ = cc in no)
refused_first number None later d why some is = absurd (let no : ⊥ = cc in no)

-- The edits that are left lead on from the current drawing as all edits from the first drawing. The first edit of all has the
-- number `start`, the first of those left `number`.
pub record EditsGoOn (start number : ℕ) (words left : List (List ℕ)) (first now : DrawingValue) : Type 0 where
  pub parsed : IsSome (parsed_drawing_edits left)
  pub rest : edits_applied number (drawing_edits_of left) now ≡ edits_applied start (drawing_edits_of words) first

pub next_parsed : (start number : ℕ) (words left : List (List ℕ)) (word : List ℕ) (more : List (List ℕ)) (first now : DrawingValue)
    → EditsGoOn start number words left first now → left ≡ word ∷ more → IsSome (parsed_drawing_edit word)
next_parsed start number words left word more first now goes is = first_parsed (parsed_drawing_edit word) (parsed_drawing_edits more)
    (subst (λ (ws : List (List ℕ)). IsSome (parsed_drawing_edits ws)) is goes.parsed)

pub edits_go_on : (start number : ℕ) (words left : List (List ℕ)) (word : List ℕ) (more : List (List ℕ)) (first now next : DrawingValue)
    → EditsGoOn start number words left first now → left ≡ word ∷ more
    → IfSome (parsed_drawing_edit word) (λ one. edited_drawing one now ≡ Ok next) → EditsGoOn start (number + 1) words more first next
edits_go_on start number words left word more first now next goes is applied =
    let on = subst (λ (ws : List (List ℕ)). EditsGoOn start number words ws first now) is goes in
    record {
      parsed = later_parsed (parsed_drawing_edit word) (parsed_drawing_edits more) on.parsed;
      rest = sym (applied_first number (parsed_drawing_edit word) (parsed_drawing_edits more) now next on.parsed applied) ∙ on.rest;
    }

pub edits_refused : (start number : ℕ) (words left : List (List ℕ)) (word : List ℕ) (more : List (List ℕ)) (first now : DrawingValue)
    (why : EditFault) → EditsGoOn start number words left first now → left ≡ word ∷ more
    → IfSome (parsed_drawing_edit word) (λ one. IsSpecified {A = DrawingValue} edit_is_out_of_memory (edited_drawing one now) (Err why))
    → IsSpecified bad_edit_is_out_of_memory (edits_applied start (drawing_edits_of words) first)
    (Err (record { number = number; fault = why }))
edits_refused start number words left word more first now why goes is refused =
    let on = subst (λ (ws : List (List ℕ)). EditsGoOn start number words ws first now) is goes in
    subst (λ (r : Result DrawingValue BadEdit). IsSpecified bad_edit_is_out_of_memory r (Err (bad_at number why))) on.rest
    (refused_first number (parsed_drawing_edit word) (parsed_drawing_edits more) now why on.parsed refused)

-- after the first edit the others have the numbers from 2 on
pub edits_from : (word : List ℕ) (more : List (List ℕ)) (d next : DrawingValue) (r : Result DrawingValue BadEdit)
    → IsSome (parsed_drawing_edits (word ∷ more)) → IfSome (parsed_drawing_edit word) (λ one. edited_drawing one d ≡ Ok next)
    → IsSpecified bad_edit_is_out_of_memory (edits_applied 2 (drawing_edits_of more) next) r
    → IsSpecified bad_edit_is_out_of_memory (edits_applied 1 (drawing_edits_of (word ∷ more)) d) r
edits_from word more d next r some is rest =
    subst (λ (s : Result DrawingValue BadEdit). IsSpecified bad_edit_is_out_of_memory s r)
    (sym (applied_first 1 (parsed_drawing_edit word) (parsed_drawing_edits more) d next some is)) rest

pub first_refused : (word : List ℕ) (more : List (List ℕ)) (d : DrawingValue) (why : EditFault)
    → IsSome (parsed_drawing_edits (word ∷ more))
    → IfSome (parsed_drawing_edit word) (λ one. IsSpecified {A = DrawingValue} edit_is_out_of_memory (edited_drawing one d) (Err why))
    → IsSpecified bad_edit_is_out_of_memory (edits_applied 1 (drawing_edits_of (word ∷ more)) d) (Err (record { number = 1; fault = why }))
first_refused word more d why some is = refused_first 1 (parsed_drawing_edit word) (parsed_drawing_edits more) d why some is
