-- The edits that order pieces, one after another.
use Rattle.std.proofs.Common.{◌≡◌, ◌∙◌, ℕ, List, [], ◌∷◌, Option, Some, None, IfSome, IsSome, ap, sym, subst}
use Rattle.drawing_commands.proofs.Names.{unwrap_or, first_parsed, later_parsed, with_first_edit, DrawingEdit, DrawingValue, drawing_edits_of, drawing_ordered_alone, orders_from, parsed_drawing_edit, parsed_drawing_edits, drawing_with_order}

-- the first edit is applied, and the others to what it gives
order_first : (first : Option DrawingEdit) (later : Option (List DrawingEdit)) (d : DrawingValue) (before next : Option DrawingValue)
    → IsSome (with_first_edit first later) → IfSome first (λ one. next ≡ drawing_with_order d before one)
    → orders_from d before (unwrap_or (with_first_edit first later) []) ≡ orders_from d next (unwrap_or later [])
order_first (Some one) (Some edits) d before next some is = ap (λ (o : Option DrawingValue). orders_from d o edits) (sym is)
order_first (Some one) None d before next some is = absurd (let no : ⊥ = cc in no)
order_first None later d before next some is = absurd (let no : ⊥ = cc in no)

-- The edits that are left lead on from the orders so far as all edits from none.
pub record OrdersGoOn (words left : List (List ℕ)) (d : DrawingValue) (now : Option DrawingValue) : Type 0 where
  pub parsed : IsSome (parsed_drawing_edits left)
  pub rest : orders_from d now (drawing_edits_of left) ≡ drawing_ordered_alone (drawing_edits_of words) d

pub next_order_parsed : (words left : List (List ℕ)) (word : List ℕ) (more : List (List ℕ)) (d : DrawingValue) (now : Option DrawingValue)
    → OrdersGoOn words left d now → left ≡ word ∷ more → IsSome (parsed_drawing_edit word)
next_order_parsed words left word more d now goes is = first_parsed (parsed_drawing_edit word) (parsed_drawing_edits more)
    (subst (λ (ws : List (List ℕ)). IsSome (parsed_drawing_edits ws)) is goes.parsed)

pub orders_go_on : (words left : List (List ℕ)) (word : List ℕ) (more : List (List ℕ)) (d : DrawingValue) (now next : Option DrawingValue)
    → OrdersGoOn words left d now → left ≡ word ∷ more
    → IfSome (parsed_drawing_edit word) (λ one. next ≡ drawing_with_order d now one) → OrdersGoOn words more d next
orders_go_on words left word more d now next goes is applied =
    let on = subst (λ (ws : List (List ℕ)). OrdersGoOn words ws d now) is goes in
    record {
      parsed = later_parsed (parsed_drawing_edit word) (parsed_drawing_edits more) on.parsed;
      rest = sym (order_first (parsed_drawing_edit word) (parsed_drawing_edits more) d now next on.parsed applied) ∙ on.rest;
    }
