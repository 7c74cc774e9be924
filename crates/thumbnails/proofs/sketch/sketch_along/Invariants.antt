use Rattle.std.proofs.Common.{◌≡◌, drop}
use Rattle.design_model.specs.Acts.{acts_along}
use Rattle.design_model.specs.ActScanners.{acts_after}
use Rattle.thumbnails.specs.Sketches.{nothing_sketched, sketch_by, sketched_along}
use Rattle.thumbnails.proofs.sketch.sketch_along.Given as goal

-- what is drawn so far and the acts that are left make all of it
abbrev pub invariant-loop-command : goal.invariant-loop-command
invariant-loop-command l = record {
  number : l.scanner.number ≡ l.command-index;
  drawn : sketched_along l.view (sketch_by l.sketch) (acts_after l.scanner (drop l.command-index l.commands))
      ≡ sketched_along l.view nothing_sketched (acts_along l.fn.commands);
}
