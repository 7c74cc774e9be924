use Rattle.odd_paths.proofs.LaneLemmas.{are_added}
use Rattle.odd_paths.proofs.terminal_blocks.add_rows.Goals as goal

pub returns : goal.returns
returns c =
    are_added c.args.edges.now c.args.n c.args.terminals.now c.in_ok-table.table.items _ _ c.in_ok-table.ensures.columns
    (rw (← c.as_slice-2.ensures.value) c.in_ok-push_columns.ensures)
