use Rattle.std.proofs.Common.{◌++◌, ap, ◌∙◌}
use Rattle.record_formats.proofs.WriterLemmas.{jump_more}
use Rattle.record_formats.proofs.act_writing.ActRecords.put_jumps.Goals as goal

pub loop-done-preserved : goal.loop-done-preserved
loop-done-preserved g c =
    let jump = (g.W.RecordWriter.encoding c.args.self.now.0).jump in
    jump_more jump c.loop-done.out c.put_jump.new.out _ c.args.step c.args.count c.loop-done.done c.args.wanted
    c.loop-done-test.true
    (c.in_ok-put_jump.ensures ∙ ap (λ m. c.loop-done.out ++ jump m) c.part_move.ensures.value)
    c.loop-done.invariant
