use Rattle.std.proofs.Common.{◌∙◌, arith}
use Rattle.near_pieces.proofs.StopLemmas.{known_later, known_way}
use Rattle.near_pieces.proofs.stop.stop_after.Goals as goal

pub later-requires-clause-way : goal.later-requires-clause-way
later-requires-clause-way c =
    known_way c.args.visits.now _ (c.requires.known c.args.index _ (omega (arith, c.if-index-known.true)))

pub returns-then-is_same : goal.returns-then-is_same
returns-then-is_same c = c.later.ensures ∙ known_later c.args.visits.now _ c.args.at.from c.args.at.travel c.args.place
    (c.requires.known c.args.index _ (omega (arith, c.if-index-known.true))) (omega (arith, c.if-stop-place.true))
    (c.is_same.ensures c.if-is_same.true)
