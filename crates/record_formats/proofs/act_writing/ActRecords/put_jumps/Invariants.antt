use Rattle.std.proofs.Common.{◌≡◌, ◌-◌, ◌++◌, map}
use Rattle.record_formats.proofs.Names.{concat, part_moves_from}
use Rattle.record_formats.proofs.act_writing.ActRecords.put_jumps.Given as goal

-- the jumps so far, and those of the parts that are left
abbrev pub invariant-loop-done : goal.invariant-loop-done
invariant-loop-done g l = l.out ++ concat (map (g.W.RecordWriter.encoding l.self.0).jump
    (part_moves_from l.step l.count l.done (l.wanted - l.done)))
    ≡ l.fn.out ++ concat (map (g.W.RecordWriter.encoding l.self.0).jump (part_moves_from l.step l.count 0 l.wanted))
