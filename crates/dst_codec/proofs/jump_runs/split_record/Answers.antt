use Rattle.dst_codec.proofs.jump_runs.split_record.Goals as goal

pub returns-in-Stop : goal.returns-in-Stop
returns-in-Stop c = c.split_other.ensures c.args.jumps
