-- The strokes of a design show its acts, each once and in order.
use Rattle.std.specs.Prelude.{◌≡◌, false, map}
use Rattle.design_model.specs.declared.act.Act.{Act}
use Rattle.design_model.specs.declared.act.Act.TheVariants as act
use Rattle.design_model.specs.declared.act.NumberedAct.{NumberedAct}
use Rattle.design_model.specs.Acts.{acts_of}
use Rattle.design_model.specs.Designs.{DesignValue}
use Rattle.design_picture.specs.declared.strokes.Stroke.{Stroke}
use Rattle.design_picture.specs.declared.strokes.Stroke.TheVariants.{Begin, Float, Sewn, Trim, Stop}
use Rattle.design_picture.specs.Strokes.{strokes_of}

-- The act that a stroke shows: a needle at a point, a trim or a stop.
abbrev pub shown_act : Stroke → Act
shown_act (Begin start) = act.Needle start.at false
shown_act (Float from p) = act.Needle p false
shown_act (Sewn stitch) = act.Needle stitch.at false
shown_act (Trim p) = act.Trim
shown_act (Stop ended next) = act.Stop

-- An act without the mark of a float.
abbrev pub plain_act : Act → Act
plain_act (act.Needle p float) = act.Needle p false
plain_act act.Trim = act.Trim
plain_act act.Stop = act.Stop

-- The strokes of a design show its acts in order.
abbrev pub StrokesShowActs : Type 0
StrokesShowActs = (d : DesignValue) → map shown_act (strokes_of d)
    ≡ map (λ (a : NumberedAct). plain_act a.act) (acts_of d)
