use Rattle.std.proofs.Common.{◌≡◌, ◌++◌, drop}
use Rattle.design_picture.proofs.Names.{layer_text}
use Rattle.design_picture.proofs.layers.put_layer.Given as goal

-- the text so far and the strokes that are left are all of the layer
abbrev pub invariant-loop-stroke : goal.invariant-loop-stroke
invariant-loop-stroke l = l.text ++ layer_text l.layer (drop l.stroke-index l.strokes) ≡ l.fn.text ++ layer_text l.fn.layer l.fn.strokes
