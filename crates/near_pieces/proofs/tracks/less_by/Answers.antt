use Rattle.std.proofs.Common.{All, IsPermutation, List, arith, subst, sym, ℕ}
use Rattle.near_pieces.proofs.Names.{IsPermutation-trans}
use Rattle.near_pieces.proofs.TrackLemmas.{back_known, no_more_than_whole, there_known}
use Rattle.near_pieces.specs.Stops.{IsKnown}
use Rattle.near_pieces.proofs.tracks.less_by.Goals as goal

pub returns-then-least_travel-tracks : goal.returns-then-least_travel-tracks
returns-then-least_travel-tracks c = no_more_than_whole c.args.visits.now c.args.start c.args.parts.before.now _ c.after_last-at.result
    c.args.tracks.now.best.travel c.least_travel.result c.requires.before c.after_last-at.ensures c.least_travel.ensures
    (omega (arith, c.if-least_travel-tracks.true))

pub tracks_of-requires-clause-each : goal.tracks_of-requires-clause-each
tracks_of-requires-clause-each c = IsPermutation-trans _ _ _ c.requires.tracks.measured.each
    (subst (λ (l : List ℕ). IsPermutation c.args.tracks.now.best.order l) (sym c.in_ok-order.ensures) c.requires.each)

pub tracks_of-requires-clause-there : goal.tracks_of-requires-clause-there
tracks_of-requires-clause-there c = subst (All (IsKnown c.args.visits.now)) (sym c.as_slice.ensures)
    (there_known c.args.visits.now c.args.start c.args.tracks.now c.requires.tracks)

pub tracks_of-requires-clause-back : goal.tracks_of-requires-clause-back
tracks_of-requires-clause-back c = subst (All (IsKnown c.args.visits.now)) (sym c.as_slice-2.ensures)
    (back_known c.args.visits.now c.args.start c.args.tracks.now c.requires.tracks)
