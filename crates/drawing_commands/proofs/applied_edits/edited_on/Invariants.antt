use Rattle.std.proofs.Common.{◌≡◌, ◌+◌, true, drop, map, string_bytes}
use Rattle.drawing_commands.proofs.Names.{HasOrderedEnds}
use Rattle.line_graph.specs.JoinedDrawings.{is_joined}
use Rattle.drawing_commands.proofs.DrawingEditLemmas.{EditsGoOn}
use Rattle.drawing_commands.proofs.applied_edits.edited_on.Given as goal

-- The remaining edits lead on from the current drawing, which is joined, with its starts and ends in order.
abbrev pub invariant-loop-word : goal.invariant-loop-word
invariant-loop-word l = record {
  numbered : l.number ≡ l.word-index + 2;
  joined : is_joined l.edited ≡ true;
  ordered : HasOrderedEnds l.edited;
  goes : EditsGoOn 2 l.number (map (λ word. string_bytes word) l.words)
      (map (λ word. string_bytes word) (drop l.word-index l.words)) l.fn.once l.edited;
}
