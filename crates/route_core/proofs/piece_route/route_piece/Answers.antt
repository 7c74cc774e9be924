use Rattle.std.proofs.Common.{◌≡◌, ◌∙◌, ◌<◌, ◌≤◌, ◌%◌, ◌^◌, List, ℕ, arith, length, subst, sym, ap}
use Rattle.route_core.proofs.Names.{Pair, MAX_COST, MAX_LINES, graph_of, AreTerminals, pair_costs, IsWalkBy, odds_are_terminals}
use Rattle.route_core.proofs.LeastCertLemmas.{pairs_cost_few, proves, spelled}
use Rattle.route_core.proofs.piece_route.route_piece.Goals as goal

pub rows-requires : goal.rows-requires
rows-requires c =
    subst (λ (ts : List ℕ). AreTerminals (graph_of c.args.p.now) ts) (sym (c.as_slice.ensures ∙ c.in_ok-odds.ensures.value))
    (odds_are_terminals (graph_of c.args.p.now))

pub match_odds-requires-clause-even : goal.match_odds-requires-clause-even
match_odds-requires-clause-even c =
    subst (λ (ts : List ℕ). length ts % 2 ≡ 0) (sym c.as_slice-2.ensures) c.in_ok-odds.ensures.even

pub match_odds-requires-clause-few : goal.match_odds-requires-clause-few
match_odds-requires-clause-few c =
    subst (λ (ts : List ℕ). length ts ≤ MAX_LINES) (sym (c.as_slice-2.ensures ∙ c.in_ok-odds.ensures.value))
    (c.odds_are_even.ensures (graph_of c.args.p.now) c.args.p.now.kept).1

pub walk_by-requires-clause-few : goal.walk_by-requires-clause-few
walk_by-requires-clause-few c =
    subst (λ (pairs : List Pair). pair_costs c.in_ok-rows.rows pairs ≤ MAX_COST) (sym c.as_slice-pairs.ensures)
    (pairs_cost_few (graph_of c.args.p.now) c.args.p.now.kept c.packings_keep_their_total.ensures c.in_ok-rows.rows
    c.in_ok-matching.matching.pairs
    c.in_ok-matching.matching.moats c.in_ok-cuts.cuts c.in_ok-matching.ensures c.in_ok-cuts.ensures)

pub cost_of_pairs-retraced-requires-clause-few : goal.cost_of_pairs-retraced-requires-clause-few
cost_of_pairs-retraced-requires-clause-few c =
    subst (λ (pairs : List Pair). pair_costs c.in_ok-rows.rows pairs < 2 ^ 32) (sym c.as_slice-pairs.ensures)
    (less _ (pairs_cost_few (graph_of c.args.p.now) c.args.p.now.kept c.packings_keep_their_total.ensures c.in_ok-rows.rows
    c.in_ok-matching.matching.pairs
    c.in_ok-matching.matching.moats c.in_ok-cuts.cuts c.in_ok-matching.ensures c.in_ok-cuts.ensures))
  where
    less : (k : ℕ) → k ≤ 200000 → k < 2 ^ 32
    less k h = omega arith

pub returns-clause-proves : goal.returns-clause-proves
returns-clause-proves c =
    proves (graph_of c.args.p.now) c.args.p.now.kept c.packings_prove_least.ensures c.in_ok-rows.rows c.in_ok-matching.matching.pairs
    c.in_ok-matching.matching.moats (record {
      retraced = c.cost_of_pairs-retraced.result;
      walk = c.in_ok-walk.walk;
      cuts =
          c.in_ok-cuts.cuts;
    })
    c.in_ok-matching.ensures c.in_ok-cuts.ensures
    (subst (λ (pairs : List Pair). IsWalkBy (graph_of c.args.p.now) c.in_ok-rows.rows pairs c.in_ok-walk.walk) c.as_slice-pairs.ensures
    c.in_ok-walk.ensures)
    (c.cost_of_pairs-retraced.ensures ∙ ap (pair_costs c.in_ok-rows.rows) c.as_slice-pairs.ensures)

pub returns-clause-canonical : goal.returns-clause-canonical
returns-clause-canonical c =
    spelled (graph_of c.args.p.now) c.args.p.now.kept c.in_ok-rows.rows c.in_ok-matching.matching.pairs
    c.in_ok-matching.matching.moats (record {
      retraced = c.cost_of_pairs-retraced.result;
      walk = c.in_ok-walk.walk;
      cuts =
          c.in_ok-cuts.cuts;
    })
    c.in_ok-cuts.ensures
    (subst (λ (pairs : List Pair). IsWalkBy (graph_of c.args.p.now) c.in_ok-rows.rows pairs c.in_ok-walk.walk) c.as_slice-pairs.ensures
    c.in_ok-walk.ensures)
