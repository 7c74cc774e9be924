-- The layers of a picture, each of which has a text for each stroke, in order.
use Rattle.std.specs.Prelude.{ℕ, List, ◌++◌}
use Rattle.std.specs.List.{flat_map}
use Rattle.design_picture.specs.declared.layers.Layer.{Layer}
use Rattle.design_picture.specs.declared.layers.Layer.TheVariants as layer
use Rattle.design_picture.specs.declared.strokes.Stroke.{Stroke}
use Rattle.design_picture.specs.Captions.{legend_text}
use Rattle.design_picture.specs.Hoops.{outside_text}
use Rattle.design_picture.specs.StrokeMarks.{stroke_marks}
use Rattle.design_picture.specs.Threads.{arrow_text, hole_text, second_text, thread_text, travel_text}
use Rattle.picture_parts.specs.Paths.{path_end, path_start}

-- The text of a stroke in a layer.
abbrev pub stroke_text : Layer → Stroke → List ℕ
stroke_text layer.Travels stroke = travel_text stroke
stroke_text layer.Threads stroke = thread_text stroke
stroke_text layer.Seconds stroke = second_text stroke
stroke_text (layer.Outside rim) stroke = outside_text rim stroke
stroke_text layer.Holes stroke = hole_text stroke
stroke_text layer.Arrows stroke = arrow_text stroke
stroke_text layer.Marks stroke = stroke_marks stroke
stroke_text layer.Legend stroke = legend_text stroke

-- The text of a layer.
abbrev pub layer_text : Layer → List Stroke → List ℕ
layer_text layer strokes = flat_map (stroke_text layer) strokes

-- A layer that is one path of a class.
unfoldable pub path_layer : List ℕ → Layer → List Stroke → List ℕ
path_layer class layer strokes = path_start class ++ (layer_text layer strokes ++ path_end)
