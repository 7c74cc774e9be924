use Rattle.blossom_match.proofs.Names.{search_value}
use Rattle.blossom_match.proofs.SearchLemmas.{came_apart}
use Rattle.blossom_match.proofs.search.expand_at.Goals as goal

pub returns-clause-advances : goal.returns-clause-advances
returns-clause-advances c =
    let x = c.in_ok-expand.ensures.expands in
    came_apart x.0 c.args.at (search_value c.args.s) _ _ _ x.1 c.in_ok-expand.ensures.root

pub returns-clause-apart : goal.returns-clause-apart
returns-clause-apart c =
    let x = c.in_ok-expand.ensures.expands in
    record { grows = c.in_ok-expand.ensures.grows; root = c.in_ok-expand.ensures.root; more = x.1.more; rest = x.1.rest }
