use Rattle.std.proofs.Common.{◌≡◌, ◌++◌, drop}
use Rattle.design_picture.proofs.Names.{acts_after, acts_along, HasCounted, first_pen, none_passed, pen_along, sewn_by, strokes_from}
use Rattle.design_picture.proofs.strokes.put_along.Given as goal

-- the strokes so far and those of the acts that are left are all of them, and so is the last pen
abbrev pub invariant-loop-command : goal.invariant-loop-command
invariant-loop-command l = record {
  number : l.scanner.number ≡ l.command-index;
  counted : HasCounted l.command-index l.pen;
  shown : l.strokes ++ strokes_from l.design l.pen (sewn_by l.sewn) (acts_after l.scanner (drop l.command-index l.commands))
      ≡ l.fn.strokes ++ strokes_from l.fn.design first_pen none_passed (acts_along l.fn.commands);
  pen : pen_along l.pen (acts_after l.scanner (drop l.command-index l.commands)) ≡ pen_along first_pen (acts_along l.fn.commands);
}
