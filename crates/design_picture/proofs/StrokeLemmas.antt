-- The strokes of the acts that are left, and the pen after them, one act at a time.
use Rattle.std.proofs.Common.{◌≡◌, List, ◌∷◌, ◌++◌, ap, sym, ◌∙◌}
use Rattle.design_picture.proofs.Names.{NumberedAct, DesignValue, Pen, Stroke, pen_after, SewnSoFar, pen_along, strokes_from}

-- The stroke of the next act is added.
pub shows_next : (d : DesignValue) (pen pen' : Pen) (sewn sewn' : SewnSoFar) (a : NumberedAct) (acts rest : List NumberedAct)
    (old new whole : List Stroke) → acts ≡ a ∷ rest → pen' ≡ pen_after pen a.act
    → new ++ strokes_from d (pen_after pen a.act) sewn' rest ≡ old ++ strokes_from d pen sewn (a ∷ rest)
    → old ++ strokes_from d pen sewn acts ≡ whole → new ++ strokes_from d pen' sewn' rest ≡ whole
shows_next d pen pen' sewn sewn' a acts rest old new whole is after adds before =
    ap (λ (p : Pen). new ++ strokes_from d p sewn' rest) after ∙ adds
    ∙ ap (λ (left : List NumberedAct). old ++ strokes_from d pen sewn left) (sym is) ∙ before

-- The pen goes on from the next act.
pub moves_next : (pen pen' last : Pen) (a : NumberedAct) (acts rest : List NumberedAct) → acts ≡ a ∷ rest → pen' ≡ pen_after pen a.act
    → pen_along pen acts ≡ last → pen_along pen' rest ≡ last
moves_next pen pen' last a acts rest is after before =
    ap (λ (p : Pen). pen_along p rest) after ∙ ap (pen_along pen) (sym is) ∙ before
