use Rattle.std.proofs.Common.{Bool, length, subst, sym}
use Rattle.near_pieces.proofs.Names.{VisitOrder}
use Rattle.near_pieces.proofs.TrackLemmas.{passed_is_settled}
use Rattle.near_pieces.specs.Changes.{ArePassed}
use Rattle.near_pieces.specs.OrderChanges.{IsSettled}
use Rattle.near_pieces.proofs.local_search.settle.Goals as goal

pub returns-then-not-branch-clause-settled : goal.returns-then-not-branch-clause-settled
returns-then-not-branch-clause-settled c = subst (λ (best : VisitOrder). IsSettled c.args.visits.now c.args.start best.order)
    (sym c.order_of.ensures) (passed_is_settled c.args.visits.now c.args.start c.loop-tracks.tracks c.pass.new.tracks
    c.in_ok-pass.ensures.tracks (subst (λ (b : Bool). ArePassed c.args.visits.now c.args.start (length c.args.visits.now)
    c.loop-tracks.tracks c.pass.new.tracks b) c.if-not-branch.true c.in_ok-pass.ensures.passed))
