use Rattle.std.proofs.Common.{◌≡◌, arith}
use Rattle.drawing_picture.proofs.Names.{marks_of_piece, tested_marks, graph_of, nat_tests}
use Rattle.drawing_picture.proofs.MarkLemmas.{piece_tested}
use Rattle.drawing_picture.proofs.junction_marks.put_piece.Goals as goal

pub put_tested-requires : goal.put_tested-requires
put_tested-requires c = rw c.as_slice.ensures (grind (arith, nat_tests))

pub returns : goal.returns
returns c =
    let told : tested_marks c.from.result c.to.result 0 c.as_slice.result.now c.as_slice-2.result.now
    ≡ marks_of_piece (graph_of c.args.p.now) =
    rw (c.from.ensures, c.to.ensures, c.as_slice.ensures, c.as_slice-2.ensures) (piece_tested (graph_of c.args.p.now) c.args.p.now.kept) in
    rw (← told) c.put_tested.ensures
