use Rattle.std.proofs.Common.{ap, append-nil, arith, length, List, refl}
use Rattle.drawing_picture.proofs.Names.{Point, Zip-more, append_assoc, either_empty_from_Zip, nat_tests, tested_marks}
use Rattle.drawing_picture.proofs.ZipLemmas.{shorter_ends}
use Rattle.drawing_picture.proofs.junction_marks.put_tested.Goals as goal

pub loop-at-preserved : goal.loop-at-preserved
loop-at-preserved c =
    let more = Zip-more c.loop-at.at-iterator c.next.new.self _ _ c.in-Some.is c.next.ensures.steps in
    record {
      count = omega (arith, c.loop-at.invariant.count, ap (λ (ps : List Point). length ps) more.0);
      marks = grind (arith, nat_tests, append_assoc, more.0, more.1);
    }

pub returns : goal.returns
returns c =
    let end = either_empty_from_Zip c.loop-at.at-iterator c.next.new.self _ c.in-None.is c.next.ensures.steps in
    grind (arith, append-nil, shorter_ends (tested_marks c.args.from c.args.to c.loop-at.number) (λ ys. refl) (λ x xs. refl) _ _ end)
