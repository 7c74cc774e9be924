use Rattle.std.proofs.Common.{◌%◌, subst, sym, ℕ, ◌≡◌, arith}
use Rattle.route_core.proofs.Names.{IsTable, graph_of, nat_tests}
use Rattle.route_core.proofs.LeastLemmas.{triangles}
use Rattle.route_core.proofs.MatchLemmas.{is_matched}
use Rattle.route_core.proofs.piece_route.match_odds.Goals as goal

pub match_all-requires-clause-even : goal.match_all-requires-clause-even
match_all-requires-clause-even c = subst (λ (n : ℕ). n % 2 ≡ 0) (sym c.in_ok-table.ensures.places) c.requires.even

pub match_all-requires-clause-triangles : goal.match_all-requires-clause-triangles
match_all-requires-clause-triangles c =
    triangles (graph_of c.args.p.now) c.args.rows.now c.in_ok-table.table
    (grind (arith, nat_tests, c.requires.rows, c.requires.odds, c.in_ok-table.ensures.places, c.in_ok-table.ensures.entries))

pub returns : goal.returns
returns c =
    is_matched (graph_of c.args.p.now) c.args.rows.now c.in_ok-table.table c.requires.rows
    (grind (arith, nat_tests, c.requires.rows, c.requires.odds, c.in_ok-table.ensures.places, c.in_ok-table.ensures.entries))
    (subst IsTable c.table.view_is c.table.invariant.table) c.in_ok-matching.matching.pairs c.in_ok-matching.matching.moats
    c.in_ok-matching.ensures
