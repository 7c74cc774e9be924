-- Names from elsewhere that several files of these proofs use.
pub use Rattle.design_model.specs.ActScanners.{acts_after}
pub use Rattle.design_model.specs.Acts.{acts_along, acts_of}
pub use Rattle.design_model.specs.Designs.{DesignValue}
pub use Rattle.design_model.specs.declared.act.NumberedAct.{NumberedAct}
pub use Rattle.design_picture.specs.Layers.{layer_text}
pub use Rattle.design_picture.specs.Pens.{HasCounted, first_pen, pen_after}
pub use Rattle.design_picture.specs.Strokes.{SewnSoFar, none_passed, pen_along, pen_of}
pub use Rattle.design_picture.specs.Strokes.{passes_after, sewn_by, stroke_of_act, strokes_from, strokes_of}
pub use Rattle.design_picture.specs.declared.pen.Pen.{Pen}
pub use Rattle.design_picture.specs.declared.strokes.Stroke.{Stroke}
