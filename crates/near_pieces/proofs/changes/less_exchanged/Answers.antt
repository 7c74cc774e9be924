use Rattle.std.proofs.Common.{List, ap, arith, length, subst, ℕ, ◌≤◌}
use Rattle.std.specs.Prelude.{IfOk}
use Rattle.near_pieces.proofs.Names.{travel_in}
use Rattle.near_pieces.proofs.TrackLemmas.{moved_parts, there_length}
use Rattle.near_pieces.specs.Changes.{IsFound}
use Rattle.near_pieces.proofs.changes.less_exchanged.Goals as goal

pub split_at-requires : goal.split_at-requires
split_at-requires c = omega (
  arith,
  c.requires.end,
  ap length c.as_slice.ensures,
  there_length c.args.visits.now c.args.start c.args.tracks.now c.requires.tracks,
)

pub less_by-requires-clause-before : goal.less_by-requires-clause-before
less_by-requires-clause-before c =
    let parts = moved_parts c.args.visits.now c.args.start c.args.tracks.now c.requires.tracks c.args.i c.args.j c.args.k
    c.as_slice.result.now c.split_at.result.0.now c.split_at-2.result.0.now c.split_at-3.result.0.now c.split_at-3.result.1.now
    c.split_at-2.result.1.now c.split_at.result.1.now c.as_slice.ensures c.split_at.ensures.front c.split_at.ensures.back
    c.split_at-2.ensures.front c.split_at-2.ensures.back c.split_at-3.ensures.front c.split_at-3.ensures.back in
    parts.first

pub less_by-requires-clause-one : goal.less_by-requires-clause-one
less_by-requires-clause-one c =
    let parts = moved_parts c.args.visits.now c.args.start c.args.tracks.now c.requires.tracks c.args.i c.args.j c.args.k
    c.as_slice.result.now c.split_at.result.0.now c.split_at-2.result.0.now c.split_at-3.result.0.now c.split_at-3.result.1.now
    c.split_at-2.result.1.now c.split_at.result.1.now c.as_slice.ensures c.split_at.ensures.front c.split_at.ensures.back
    c.split_at-2.ensures.front c.split_at-2.ensures.back c.split_at-3.ensures.front c.split_at-3.ensures.back in
    parts.one_is

pub less_by-requires-clause-other : goal.less_by-requires-clause-other
less_by-requires-clause-other c =
    let parts = moved_parts c.args.visits.now c.args.start c.args.tracks.now c.requires.tracks c.args.i c.args.j c.args.k
    c.as_slice.result.now c.split_at.result.0.now c.split_at-2.result.0.now c.split_at-3.result.0.now c.split_at-3.result.1.now
    c.split_at-2.result.1.now c.split_at.result.1.now c.as_slice.ensures c.split_at.ensures.front c.split_at.ensures.back
    c.split_at-2.ensures.front c.split_at-2.ensures.back c.split_at-3.ensures.front c.split_at-3.ensures.back in
    parts.other_is

pub less_by-requires-clause-last : goal.less_by-requires-clause-last
less_by-requires-clause-last c =
    let parts = moved_parts c.args.visits.now c.args.start c.args.tracks.now c.requires.tracks c.args.i c.args.j c.args.k
    c.as_slice.result.now c.split_at.result.0.now c.split_at-2.result.0.now c.split_at-3.result.0.now c.split_at-3.result.1.now
    c.split_at-2.result.1.now c.split_at.result.1.now c.as_slice.ensures c.split_at.ensures.front c.split_at.ensures.back
    c.split_at-2.ensures.front c.split_at-2.ensures.back c.split_at-3.ensures.front c.split_at-3.ensures.back in
    parts.last_is

pub less_by-requires-clause-each : goal.less_by-requires-clause-each
less_by-requires-clause-each c =
    let parts = moved_parts c.args.visits.now c.args.start c.args.tracks.now c.requires.tracks c.args.i c.args.j c.args.k
    c.as_slice.result.now c.split_at.result.0.now c.split_at-2.result.0.now c.split_at-3.result.0.now c.split_at-3.result.1.now
    c.split_at-2.result.1.now c.split_at.result.1.now c.as_slice.ensures c.split_at.ensures.front c.split_at.ensures.back
    c.split_at-2.ensures.front c.split_at-2.ensures.back c.split_at-3.ensures.front c.split_at-3.ensures.back in
    parts.each

pub returns : goal.returns
returns c =
    let parts = moved_parts c.args.visits.now c.args.start c.args.tracks.now c.requires.tracks c.args.i c.args.j c.args.k
    c.as_slice.result.now c.split_at.result.0.now c.split_at-2.result.0.now c.split_at-3.result.0.now c.split_at-3.result.1.now
    c.split_at-2.result.1.now c.split_at.result.1.now c.as_slice.ensures c.split_at.ensures.front c.split_at.ensures.back
    c.split_at-2.ensures.front c.split_at-2.ensures.back c.split_at-3.ensures.front c.split_at-3.ensures.back in
    subst (λ (l : List ℕ). IfOk c.less_by.result (IsFound c.args.visits.now c.args.start c.args.tracks.now.best
    (c.args.tracks.now.best.travel ≤ travel_in c.args.visits.now c.args.start l))) parts.whole c.less_by.ensures
