use Rattle.std.proofs.Common.{arith}
use Rattle.odd_paths.proofs.Names.{graph_of, IsLeastEdgeWalk, terminal_of}
use Rattle.odd_paths.proofs.TableLemmas.{is_path, is_this_row}
use Rattle.odd_paths.proofs.row_table.Rows.path.Goals as goal
use Rattle.odd_paths.proofs.CallerLemmas.{is_wide}

pub places-requires-clause-row : goal.places-requires-clause-row
places-requires-clause-row c =
    is_this_row (graph_of c.args.p.now) c.args.self.now c.args.t c.row.result.now c.as_slice.result.now c.terminal.result
    c.args.p.now.kept c.requires.rows c.requires.row c.row.ensures c.as_slice.ensures c.terminal.ensures

pub places-requires-clause-j : goal.places-requires-clause-j
places-requires-clause-j c =
    let size = is_wide (graph_of c.args.p.now) c.args.self.now c.args.t c.row.result.now c.requires.rows c.row.ensures in
    omega (arith, size, c.requires.junction)

pub returns : goal.returns
returns c =
    let least : IsLeastEdgeWalk c.args.p.now.edges c.row.result.now (terminal_of c.args.self.now c.args.t) c.args.j
    c.in_ok-places.places.items =
    rw (← c.as_slice.ensures, ← c.terminal.ensures) c.in_ok-places.ensures in
    rw c.from_vec.ensures
    (is_path (graph_of c.args.p.now) c.args.self.now c.args.t c.args.j c.row.result.now c.in_ok-places.places.items
    c.args.p.now.kept c.row.ensures least)
