use Rattle.std.proofs.Common.{◌++◌}
use Rattle.certificate_text.proofs.Names.{flat_map, piece_text, HasSmallNumbers}
use Rattle.certificate_text.proofs.ItemPuts.{PutsOn}
use Rattle.certificate_text.proofs.printing.put_pieces.Given as goal

-- the pieces so far are put, and their numbers are small
abbrev pub invariant-loop-piece : goal.invariant-loop-piece
invariant-loop-piece l =
    PutsOn piece_text HasSmallNumbers l.pieces l.piece-index l.text (l.fn.text ++ flat_map piece_text l.pieces)
