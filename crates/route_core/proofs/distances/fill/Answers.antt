use Rattle.std.proofs.Common.{◌<◌, ap, arith, length}
use Rattle.route_core.proofs.Names.{nat_tests, graph_of, is_wide}
use Rattle.route_core.proofs.DistanceLemmas.{row_most, terminal_there}
use Rattle.route_core.proofs.distances.fill.Goals as goal

pub loop-b-init : goal.loop-b-init
loop-b-init c = grind (arith, nat_tests)

pub bounds-row-terminals : goal.bounds-row-terminals
bounds-row-terminals c =
    let at : c.loop-b.b < length c.args.terminals.now =
    omega (arith, c.loop-b-test.true, c.places-count.ensures.value, c.requires.places) in
    omega (
      arith,
      terminal_there (graph_of c.args.p.now) c.args.rows.now c.args.terminals.now c.loop-b.b c.requires.rows
          c.requires.terminals at,
      is_wide (graph_of c.args.p.now) c.args.rows.now c.args.a _ c.requires.rows c.row-row.ensures,
    )

pub set-requires-clause-short : goal.set-requires-clause-short
set-requires-clause-short c =
    let at : c.loop-b.b < length c.args.terminals.now =
    omega (arith, c.loop-b-test.true, c.places-count.ensures.value, c.requires.places) in
    let there = terminal_there (graph_of c.args.p.now) c.args.rows.now c.args.terminals.now c.loop-b.b c.requires.rows
    c.requires.terminals at in
    let from : c.args.a < length c.args.rows.now.terminals = omega (arith, c.requires.there, ap length c.requires.terminals) in
    omega (
      arith,
      row_most (graph_of c.args.p.now) c.args.rows.now c.args.a _ _ c.requires.rows from there c.row-row.ensures,
      c.args.p.now.kept.cost_few,
    )
