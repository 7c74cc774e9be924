use Rattle.std.proofs.Common.{◌≡◌, ◌+◌, ◌%◌, ℕ, List, length, subst, sym, arith, ap, ◌∙◌}
use Rattle.free_ends.proofs.Names.{IsLeastClosedCost, graph_of, pairs_cost}
use Rattle.free_ends.proofs.ChoiceLemmas.{are_closed, end_table, pays_few_closed}
use Rattle.free_ends.proofs.TriangleLemmas.{triangles}
use Rattle.free_ends.proofs.end_choice.closed_cost.Goals as goal

pub match_all-requires-clause-even : goal.match_all-requires-clause-even
match_all-requires-clause-even c =
    let odds : length c.args.odds.now % 2 ≡ 0 = subst (λ (ts : List ℕ). length ts % 2 ≡ 0) (sym c.requires.odds)
    (c.odds_are_even.ensures (graph_of c.args.p.now) c.args.p.now.kept).0 in
    omega (arith, odds, c.in_ok-table.ensures.places)

pub match_all-requires-clause-triangles : goal.match_all-requires-clause-triangles
match_all-requires-clause-triangles c =
    triangles (graph_of c.args.p.now) c.args.rows.now c.in_ok-table.table
    (end_table (graph_of c.args.p.now) c.args.rows.now c.in_ok-table.table c.args.odds.now 0 c.args.p.now.kept c.requires.free
    c.least_costs_are_distances.ensures c.requires.odds c.requires.rows c.requires.terminals c.in_ok-table.ensures.places (omega arith)
    c.in_ok-table.ensures.entries)

pub cost_of-requires-clause-few : goal.cost_of-requires-clause-few
cost_of-requires-clause-few c =
    let few = pays_few_closed (graph_of c.args.p.now) c.args.rows.now c.in_ok-table.table
    (end_table (graph_of c.args.p.now) c.args.rows.now c.in_ok-table.table c.args.odds.now 0 c.args.p.now.kept c.requires.free
    c.least_costs_are_distances.ensures c.requires.odds c.requires.rows c.requires.terminals c.in_ok-table.ensures.places (omega arith)
    c.in_ok-table.ensures.entries)
    (omega (
      arith,
      c.in_ok-table.ensures.places,
      ap length c.requires.terminals,
    )) c.none_costs_less.ensures c.in_ok-matching.matching.pairs c.in_ok-matching.matching.moats c.in_ok-matching.ensures in
    omega (arith, few, ap (pairs_cost c.in_ok-table.table) c.as_slice.ensures, c.args.p.now.kept.cost_few)

pub overflow_add-result : goal.overflow_add-result
overflow_add-result c =
    let few = pays_few_closed (graph_of c.args.p.now) c.args.rows.now c.in_ok-table.table
    (end_table (graph_of c.args.p.now) c.args.rows.now c.in_ok-table.table c.args.odds.now 0 c.args.p.now.kept c.requires.free
    c.least_costs_are_distances.ensures c.requires.odds c.requires.rows c.requires.terminals c.in_ok-table.ensures.places (omega arith)
    c.in_ok-table.ensures.entries)
    (omega (
      arith,
      c.in_ok-table.ensures.places,
      ap length c.requires.terminals,
    )) c.none_costs_less.ensures c.in_ok-matching.matching.pairs c.in_ok-matching.matching.moats c.in_ok-matching.ensures in
    omega (
      arith,
      few,
      ap (pairs_cost c.in_ok-table.table) c.as_slice.ensures,
      c.args.p.now.kept.cost_few,
      c.cost_of.ensures,
      c.cost.ensures.value,
    )

pub returns : goal.returns
returns c = subst (IsLeastClosedCost (graph_of c.args.p.now))
    (sym (same _ _ _ _ c.cost.ensures.value (c.cost_of.ensures ∙ ap (pairs_cost c.in_ok-table.table) c.as_slice.ensures)))
    (are_closed (graph_of c.args.p.now) c.args.rows.now c.in_ok-table.table
    (end_table (graph_of c.args.p.now) c.args.rows.now c.in_ok-table.table c.args.odds.now 0 c.args.p.now.kept c.requires.free
    c.least_costs_are_distances.ensures c.requires.odds c.requires.rows c.requires.terminals c.in_ok-table.ensures.places (omega arith)
    c.in_ok-table.ensures.entries)
    (omega (
      arith,
      c.in_ok-table.ensures.places,
      ap length c.requires.terminals,
    )) c.none_costs_less.ensures c.in_ok-matching.matching.pairs c.in_ok-matching.matching.moats c.in_ok-matching.ensures)
  where
    same : (a b x y : ℕ) → a ≡ x → b ≡ y → a + b ≡ x + y
    same a b x y one two = omega (arith, one, two)
