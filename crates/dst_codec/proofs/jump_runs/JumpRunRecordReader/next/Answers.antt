use Rattle.std.proofs.Common.{sym}
use Rattle.dst_codec.proofs.RunLemmas.{cut_three}
use Rattle.dst_codec.proofs.jump_runs.JumpRunRecordReader.next.Goals as goal

pub returns : goal.returns
returns c = cut_three c.args.self.now.jumps c.run_after-self.result c.args.at c.args.bytes.now c.record_kind-kind.result
    c.decode_move-step.result c.split_record.result c.in-len3-up.len_at_least (sym c.record_kind-kind.ensures)
    (sym c.decode_move-step.ensures.value) c.run_after-self.ensures c.split_record.ensures
