use Rattle.std.proofs.Common.{◌≡◌, length, rules, arith}
use Rattle.odd_paths.proofs.Names.{graph_of, AreLeastRows, nat_tests}
use Rattle.odd_paths.proofs.TableLemmas.{are_rows, within}
use Rattle.odd_paths.proofs.least_rows.rows.Goals as goal

pub table_of-requires-clause-graph : goal.table_of-requires-clause-graph
table_of-requires-clause-graph c = rw (c.as_slice.ensures, c.len.ensures) (grind (arith, nat_tests, within))

pub returns-clause-rows : goal.returns-clause-rows
returns-clause-rows c =
    let is : c.of_parts.result.terminals ≡ c.args.terminals.now = search rules in
    let all : AreLeastRows c.args.p.now.edges (length c.args.p.now.junctions) c.args.terminals.now c.of_parts.result.table =
    rw (c.of_parts.ensures.table, ← c.as_slice.ensures, ← c.len.ensures) c.in_ok-table.ensures in
    are_rows (graph_of c.args.p.now) c.of_parts.result c.args.p.now.kept (rw is c.requires) (rw is all)
