use Rattle.std.proofs.Common.{◌≡◌, ◌∙◌, ◌+◌, ap, arith, min, subst, ℕ}
use Rattle.near_pieces.proofs.TrackLemmas.{there_length}
use Rattle.near_pieces.specs.OrderChanges.{most_changed}
use Rattle.near_pieces.proofs.local_search.less_at.Goals as goal

pub less_to-requires-clause-end : goal.less_to-requires-clause-end
less_to-requires-clause-end c = subst (λ (n : ℕ). c.min-end.result ≡ min n (c.args.index + most_changed n))
    (c.len-count.ensures ∙ there_length c.args.visits.now c.args.start c.args.tracks.now c.requires.tracks)
    (c.min-end.ensures ∙ ap (λ (n : ℕ). min c.len-count.result (c.args.index + n)) c.most_changed.ensures.value)

pub less_to-requires-clause-within : goal.less_to-requires-clause-within
less_to-requires-clause-within c = omega (
  arith,
  c.min-end.ensures,
  c.len-count.ensures,
  there_length c.args.visits.now c.args.start c.args.tracks.now c.requires.tracks,
)
