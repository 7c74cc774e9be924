-- The drawing that its stored parts make. No public clause cites this file.
use Rattle.line_graph.specs.declared.drawing_parts.DrawingParts.{DrawingParts}
use Rattle.line_graph.specs.Drawings.{DrawingValue}

-- The drawing with the given parts.
abbrev pub drawing_of_parts : DrawingParts → DrawingValue
drawing_of_parts parts = record {
  label = parts.label.items;
  step = parts.step;
  threads = parts.threads.items;
  lines = parts.lines.items;
  starts = parts.starts.items;
  ends = parts.ends.items;
}
