-- Points by their coordinates, for worked values.
use Rattle.std.proofs.Common.{ℤ}
use Rattle.line_graph.proofs.DrawingNames.{Point}

abbrev pub place : ℤ → ℤ → Point
place x y = record { x = x; y = y }
