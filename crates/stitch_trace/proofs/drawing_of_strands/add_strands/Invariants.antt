use Rattle.std.proofs.Common.{◌≡◌, drop}
use Rattle.stitch_trace.proofs.Names.{strands_added}
use Rattle.stitch_trace.proofs.drawing_of_strands.add_strands.Given as goal

-- with the strands that are left, the drawing becomes the specified one
abbrev pub invariant-loop-strand : goal.invariant-loop-strand
invariant-loop-strand l = strands_added l.maker (drop l.strand-index l.strands) ≡ strands_added l.fn.maker l.strands
