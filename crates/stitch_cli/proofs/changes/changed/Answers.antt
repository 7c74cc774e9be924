use Rattle.stitch_cli.proofs.changes.changed.Goals as goal

pub returns-in-Edits : goal.returns-in-Edits
returns-in-Edits c = rw c.in-Edits.is (c.edited.ensures c.args.limit)
