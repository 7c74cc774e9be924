use Rattle.std.specs.HashMap.{get}
use Rattle.line_graph.proofs.Names.{is_same_spot, AreLinkedBelow}
use Rattle.line_graph.proofs.first_lines.links.Given as goal

-- the lines so far are linked
abbrev pub invariant-loop-line : goal.invariant-loop-line
invariant-loop-line l = AreLinkedBelow l.d l.line (get is_same_spot l.firsts) l.links.items
