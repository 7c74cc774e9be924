use Rattle.std.proofs.Common.{◌<◌, ◌≤◌, length, rules}
use Rattle.format_traits.proofs.FeedLemmas.{is_fed}
use Rattle.format_traits.proofs.feed.Feed.feed.Goals as goal

pub returns-in-Ok : goal.returns-in-Ok
returns-in-Ok g c =
    let some : 0 < length c.args.chunk.now = search rules in
    let fits : length c.args.self.now.pending.items ≤ c.args.self.now.taken = search rules in
    is_fed _ _ _ _ c.args.self.now.start c.args.self.now.taken _ _ c.args.chunk.now _ _ fits c.len.ensures.value some c.in-Ok.ensures
    c.if-self.false
