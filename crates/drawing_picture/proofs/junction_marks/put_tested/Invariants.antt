use Rattle.std.proofs.Common.{◌≡◌, ◌+◌, ◌++◌, length}
use Rattle.drawing_picture.proofs.Names.{iter_rest, tested_marks, zip_first, zip_second}
use Rattle.drawing_picture.proofs.junction_marks.put_tested.Given as goal

-- the marks so far, and those of the junctions that are left, are all
abbrev pub invariant-loop-at : goal.invariant-loop-at
invariant-loop-at l =
    let left = iter_rest (zip_first l.at-iterator) in
    record {
      count : l.number + length left ≡ length l.junctions;
      marks : l.marks ++ tested_marks l.from l.to l.number left (iter_rest (zip_second l.at-iterator))
          ≡ l.fn.marks ++ tested_marks l.from l.to 0 l.junctions l.degrees;
    }
