-- Templates, one part at a time.
use Rattle.std.proofs.Common.{◌≡◌, ℕ, List, [], ◌∷◌, ◌++◌, arith, ap, sym, ◌∙◌}
use Rattle.std.proofs.lemmas.List.{append_assoc}
use Rattle.picture_parts.specs.Parts.{filled, text_after, text_before}

-- The next text of a template and a part are added.
pub fills_part : (text text' text'' whole template before after part : List ℕ) (left rest : List (List ℕ))
    → text ++ filled template left ≡ whole → left ≡ part ∷ rest → before ≡ text_before template → after ≡ text_after template
    → text' ≡ text ++ before → text'' ≡ text' ++ part → text'' ++ filled after rest ≡ whole
unfolding filled
fills_part text text' text'' whole template before after part left rest whole_is left_is before_is after_is one two =
    grind (arith, append_assoc, whole_is, left_is, before_is, after_is, one, two)

-- No part is left.
pub fills_no_part : (text text' whole template : List ℕ) (left : List (List ℕ)) → text ++ filled template left ≡ whole → left ≡ []
    → text' ≡ text ++ template → text' ≡ whole
unfolding filled
fills_no_part text text' whole template left whole_is none added =
    added ∙ ap (λ l. text ++ filled template l) (sym none) ∙ whole_is
