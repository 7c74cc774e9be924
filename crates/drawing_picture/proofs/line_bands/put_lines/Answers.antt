use Rattle.std.proofs.Common.{◌<◌, append-nil, arith, length, refl}
use Rattle.drawing_picture.proofs.Names.{All-tail, Zip-more, append_assoc, bands_of_lines, either_empty_from_Zip, nat_tests}
use Rattle.drawing_picture.proofs.ZipLemmas.{shorter_ends}
use Rattle.drawing_picture.proofs.line_bands.put_lines.Goals as goal

pub loop-line-preserved : goal.loop-line-preserved
loop-line-preserved c =
    let more = Zip-more c.loop-line.line-iterator c.next.new.self _ _ c.in-Some.is c.next.ensures.steps in
    record {
      there = All-tail (λ line. line < length c.args.d.now.lines) c.in-Some.line.now _ (rw more.0 at c.loop-line.invariant.there);
      bands = grind (arith, nat_tests, append_assoc, more.0, more.1);
    }

pub returns : goal.returns
returns c =
    let end = either_empty_from_Zip c.loop-line.line-iterator c.next.new.self _ c.in-None.is c.next.ensures.steps in
    grind (arith, append-nil, shorter_ends (bands_of_lines c.args.d.now c.args.cuts.now) (λ ys. refl) (λ x xs. refl) _ _ end)
