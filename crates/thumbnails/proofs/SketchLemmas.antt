-- What is drawn of the acts that are left, one act at a time.
use Rattle.std.proofs.Common.{◌≡◌, List, ◌∷◌, ap, sym, ◌∙◌}
use Rattle.design_model.specs.declared.act.NumberedAct.{NumberedAct}
use Rattle.thumbnails.specs.declared.scaling.View.{View}
use Rattle.thumbnails.specs.Sketches.{Sketched, sketched_after, sketched_along}

-- The next act is drawn.
pub draws_next : (view : View) (old new all : Sketched) (a : NumberedAct) (acts rest : List NumberedAct) → acts ≡ a ∷ rest
    → new ≡ sketched_after view old a.act → sketched_along view old acts ≡ all → sketched_along view new rest ≡ all
draws_next view old new all a acts rest is drawn before =
    ap (λ (s : Sketched). sketched_along view s rest) drawn ∙ ap (sketched_along view old) (sym is) ∙ before
