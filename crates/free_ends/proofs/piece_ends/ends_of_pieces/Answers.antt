use Rattle.std.proofs.lemmas.List.{nil_from_length}
use Rattle.free_ends.proofs.FoundLemmas.{all_found}
use Rattle.free_ends.proofs.piece_ends.ends_of_pieces.Goals as goal

pub returns : goal.returns
returns c =
    all_found c.args.pieces.now c.loop-piece.rest.now c.loop-piece.all
    (nil_from_length _ c.in_default.ensures.cases) c.loop-piece.invariant
