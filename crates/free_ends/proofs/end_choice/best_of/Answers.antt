use Rattle.std.proofs.Common.{◌≡◌, ◌+◌, ◌%◌, ℕ, List, length, subst, sym, arith, ap, ◌∙◌}
use Rattle.free_ends.proofs.Names.{graph_of}
use Rattle.free_ends.proofs.ChoiceLemmas.{best_few, best_is, end_table}
use Rattle.free_ends.proofs.TriangleLemmas.{triangles}
use Rattle.free_ends.proofs.end_choice.best_of.Goals as goal

pub match_all-requires-clause-even : goal.match_all-requires-clause-even
match_all-requires-clause-even c =
    let odds : length c.args.odds.now % 2 ≡ 0 = subst (λ (ts : List ℕ). length ts % 2 ≡ 0) (sym c.requires.odds)
    (c.odds_are_even.ensures (graph_of c.args.p.now) c.args.p.now.kept).0 in
    omega (arith, odds, c.in_ok-table.ensures.places)

pub match_all-requires-clause-triangles : goal.match_all-requires-clause-triangles
match_all-requires-clause-triangles c =
    triangles (graph_of c.args.p.now) c.args.rows.now c.in_ok-table.table
    (end_table (graph_of c.args.p.now) c.args.rows.now c.in_ok-table.table c.args.odds.now 2 c.args.p.now.kept c.requires.free
    c.least_costs_are_distances.ensures c.requires.odds c.requires.rows c.requires.terminals c.in_ok-table.ensures.places (omega arith)
    c.in_ok-table.ensures.entries)

pub cost_of-requires-clause-few : goal.cost_of-requires-clause-few
cost_of-requires-clause-few c =
    let few = best_few (graph_of c.args.p.now) c.args.rows.now c.in_ok-table.table
    (end_table (graph_of c.args.p.now) c.args.rows.now c.in_ok-table.table c.args.odds.now 2 c.args.p.now.kept c.requires.free
    c.least_costs_are_distances.ensures c.requires.odds c.requires.rows c.requires.terminals c.in_ok-table.ensures.places (omega arith)
    c.in_ok-table.ensures.entries)
    (c.in_ok-table.ensures.places ∙ ap (λ (ts : List ℕ). length ts + 2) (sym c.requires.terminals))
    c.none_costs_less.ensures c.in_ok-matching.matching.pairs c.as_slice-pairs.result.now c.in_ok-matching.matching.moats
    c.in_ok-matching.ensures c.as_slice-pairs.ensures in
    omega (arith, few.0)

pub overflow_add-cost : goal.overflow_add-cost
overflow_add-cost c =
    let few = best_few (graph_of c.args.p.now) c.args.rows.now c.in_ok-table.table
    (end_table (graph_of c.args.p.now) c.args.rows.now c.in_ok-table.table c.args.odds.now 2 c.args.p.now.kept c.requires.free
    c.least_costs_are_distances.ensures c.requires.odds c.requires.rows c.requires.terminals c.in_ok-table.ensures.places (omega arith)
    c.in_ok-table.ensures.entries)
    (c.in_ok-table.ensures.places ∙ ap (λ (ts : List ℕ). length ts + 2) (sym c.requires.terminals))
    c.none_costs_less.ensures c.in_ok-matching.matching.pairs c.as_slice-pairs.result.now c.in_ok-matching.matching.moats
    c.in_ok-matching.ensures c.as_slice-pairs.ensures in
    omega (arith, few.0, c.cost_of.ensures, c.cost.ensures.value, c.cost.ensures.most)

pub overflow_sub-cost : goal.overflow_sub-cost
overflow_sub-cost c =
    let few = best_few (graph_of c.args.p.now) c.args.rows.now c.in_ok-table.table
    (end_table (graph_of c.args.p.now) c.args.rows.now c.in_ok-table.table c.args.odds.now 2 c.args.p.now.kept c.requires.free
    c.least_costs_are_distances.ensures c.requires.odds c.requires.rows c.requires.terminals c.in_ok-table.ensures.places (omega arith)
    c.in_ok-table.ensures.entries)
    (c.in_ok-table.ensures.places ∙ ap (λ (ts : List ℕ). length ts + 2) (sym c.requires.terminals))
    c.none_costs_less.ensures c.in_ok-matching.matching.pairs c.as_slice-pairs.result.now c.in_ok-matching.matching.moats
    c.in_ok-matching.ensures c.as_slice-pairs.ensures in
    omega (arith, few.1, c.cost_of.ensures)

pub returns : goal.returns
returns c = record {
  ends = best_is (graph_of c.args.p.now) c.args.rows.now c.in_ok-table.table
      (end_table (graph_of c.args.p.now) c.args.rows.now c.in_ok-table.table c.args.odds.now 2 c.args.p.now.kept c.requires.free
      c.least_costs_are_distances.ensures c.requires.odds c.requires.rows c.requires.terminals c.in_ok-table.ensures.places (omega arith)
      c.in_ok-table.ensures.entries)
      (c.in_ok-table.ensures.places ∙ ap (λ (ts : List ℕ). length ts + 2) (sym c.requires.terminals))
      c.none_costs_less.ensures c.in_ok-matching.matching.pairs c.as_slice-pairs.result.now c.in_ok-matching.matching.moats
      c.in_ok-matching.ensures c.as_slice-pairs.ensures c.args.odds.now c.requires.terminals
      c.ends_by-ends.result c.ends_by-ends.ensures c.cost.result c.cost_of.result c.cost.ensures.value c.cost_of.ensures;
  closed = c.requires.closed;
}
