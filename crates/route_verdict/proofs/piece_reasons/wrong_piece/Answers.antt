use Rattle.std.proofs.Common.{◌∙◌, ap, length, List, arith, sym}
use Rattle.std.proofs.lemmas.Slice.Zip.{Zip-more, either_empty_from_Zip}
use Rattle.route_verdict.proofs.Names.{All-tail, HasShortLists, Piece}
use Rattle.route_verdict.proofs.VerdictLemmas.{no_reason_left}
use Rattle.route_verdict.proofs.piece_reasons.wrong_piece.Goals as goal

pub loop-piece-preserved : goal.loop-piece-preserved
loop-piece-preserved c =
    let more = Zip-more c.loop-piece.piece-iterator c.next.new.self _ _ c.in-Some.is c.next.ensures.steps in
    record {
      count = omega (arith, c.loop-piece.invariant.count, ap (λ (ps : List Piece). length ps) more.0);
      short = All-tail HasShortLists c.in-Some.cert.now _ (rw more.1 at c.loop-piece.invariant.short);
      reasons = rw (more.0, more.1, sym c.in_default.ensures) at c.loop-piece.invariant.reasons;
    }

pub returns : goal.returns
returns c = no_reason_left _ _ _ (either_empty_from_Zip c.loop-piece.piece-iterator c.next.new.self _ c.in-None.is c.next.ensures.steps)
    ∙ c.loop-piece.invariant.reasons
