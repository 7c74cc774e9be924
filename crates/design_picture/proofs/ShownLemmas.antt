-- The strokes of acts show the acts.
use Rattle.std.proofs.Common.{◌≡◌, Bool, true, false, List, [], ◌∷◌, map, refl, if◌then◌else◌}
use Rattle.std.proofs.Math.Path.{ap₂}
use Rattle.design_picture.proofs.Names.{NumberedAct, acts_of, DesignValue, Pen, Stroke, first_pen, pen_after, SewnSoFar, none_passed, passes_after, stroke_of_act, strokes_from}
use Rattle.design_model.specs.declared.act.Act.{Act}
use Rattle.design_model.specs.declared.act.Act.TheVariants as act
use Rattle.design_picture.specs.ShownActs.{StrokesShowActs, plain_act, shown_act}

-- Each of the three strokes of a needle shows it.
chosen : (loose float : Bool) (begin floated sewn : Stroke) (a : Act) → shown_act begin ≡ a → shown_act floated ≡ a → shown_act sewn ≡ a
    → shown_act (if loose then begin else (if float then floated else sewn)) ≡ a
chosen true float begin floated sewn a one two three = one
chosen false true begin floated sewn a one two three = two
chosen false false begin floated sewn a one two three = three

shows : (d : DesignValue) (pen : Pen) (sewn : SewnSoFar) (a : Act) → shown_act (stroke_of_act d pen sewn a) ≡ plain_act a
shows d pen sewn (act.Needle p float) = chosen pen.loose float _ _ _ (act.Needle p false) refl refl refl
shows d pen sewn act.Trim = refl
shows d pen sewn act.Stop = refl

all_shown : (d : DesignValue) (pen : Pen) (sewn : SewnSoFar) (acts : List NumberedAct)
    → map shown_act (strokes_from d pen sewn acts) ≡ map (λ (a : NumberedAct). plain_act a.act) acts
all_shown d pen sewn [] = refl
all_shown d pen sewn (a ∷ rest) = ap₂ (λ (b : Act) (later : List Act). b ∷ later) (shows d pen sewn a.act)
    (all_shown d (pen_after pen a.act) (passes_after pen sewn a.act) rest)

pub strokes_shown : StrokesShowActs
strokes_shown d = all_shown d first_pen none_passed (acts_of d)
