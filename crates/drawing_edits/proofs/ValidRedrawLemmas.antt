-- A valid joined drawing is drawn again as it is.
use Rattle.std.proofs.Common.{◌≡◌, true, false, List, [], ◌∷◌, ◌++◌, Result, Ok, ap, sym, subst, ◌∙◌, append_assoc, append-nil, arith}
use Rattle.drawing_edits.proofs.Names.{nat_tests, Spot, DrawKind, DrawingValue, and_then, joined_drawing, with_starts_and_ends, with_walk_ends, JoinedDrawingsStay, AreInDifferentPieces, ValidDrawingsAreRedrawn, spot_comes}
use Rattle.drawing_edits.proofs.LineDrawnLemmas.{lines_drawn}

starts_come : (spots : List Spot) (d : DrawingValue) → AreInDifferentPieces d.lines (d.starts ++ spots)
    → with_walk_ends true d spots ≡ Ok (record d { starts = d.starts ++ spots })
starts_come [] d apart = ap (λ (all : List Spot). Ok (record d { starts = all })) (sym (append-nil d.starts))
starts_come (spot ∷ rest) d apart =
    ap (λ (r : Result (List Spot) DrawKind). and_then (and_then r (λ (all : List Spot). Ok (record d { starts = all })))
    (λ (next : DrawingValue). with_walk_ends true next rest)) (spot_comes d.lines d.starts spot rest apart)
    ∙ starts_come rest (record d { starts = d.starts ++ spot ∷ [] })
    (subst (AreInDifferentPieces d.lines) (sym (append_assoc d.starts (spot ∷ []) rest)) apart)
    ∙ ap (λ (all : List Spot). Ok (record d { starts = all })) (append_assoc d.starts (spot ∷ []) rest)

ends_come : (spots : List Spot) (d : DrawingValue) → AreInDifferentPieces d.lines (d.ends ++ spots)
    → with_walk_ends false d spots ≡ Ok (record d { ends = d.ends ++ spots })
ends_come [] d apart = ap (λ (all : List Spot). Ok (record d { ends = all })) (sym (append-nil d.ends))
ends_come (spot ∷ rest) d apart =
    ap (λ (r : Result (List Spot) DrawKind). and_then (and_then r (λ (all : List Spot). Ok (record d { ends = all })))
    (λ (next : DrawingValue). with_walk_ends false next rest)) (spot_comes d.lines d.ends spot rest apart)
    ∙ ends_come rest (record d { ends = d.ends ++ spot ∷ [] })
    (subst (AreInDifferentPieces d.lines) (sym (append_assoc d.ends (spot ∷ []) rest)) apart)
    ∙ ap (λ (all : List Spot). Ok (record d { ends = all })) (append_assoc d.ends (spot ∷ []) rest)

-- A valid joined drawing is drawn again as it is.
pub valid_redrawn : JoinedDrawingsStay → ValidDrawingsAreRedrawn
valid_redrawn stay d is =
    let bare : DrawingValue = record d { starts = []; ends = [] } in
    let Drawn : Type 0 = Result DrawingValue DrawKind in
    ap (λ (r : Drawn). and_then (and_then r joined_drawing) (λ (whole : DrawingValue). with_starts_and_ends whole d.starts d.ends))
    (lines_drawn d is.valid.limits)
    ∙ ap (λ (r : Drawn). and_then r (λ (whole : DrawingValue). with_starts_and_ends whole d.starts d.ends))
    (stay bare (grind (arith, nat_tests, is.valid.limits)) is.joined)
    ∙ ap (λ (r : Drawn). and_then r (λ (started : DrawingValue). with_walk_ends false started d.ends))
    (starts_come d.starts bare is.valid.ends.starts)
    ∙ ends_come d.ends (record bare { starts = d.starts }) is.valid.ends.ends
