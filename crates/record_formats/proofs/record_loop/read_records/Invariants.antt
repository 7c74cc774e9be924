use Rattle.std.proofs.Common.{◌≡◌, ◌+◌, ◌-◌, ◌≤◌, IsTrue, false, length, drop}
use Rattle.record_formats.proofs.Names.{JUMP_LIMIT, is_point_within, ContinuesAs}
use Rattle.record_formats.specs.declared.record_stage.RecordStage.TheVariants as stage
use Rattle.record_formats.specs.RecordStates.{record_state_at}
use Rattle.record_formats.proofs.record_loop.read_records.Given as goal

-- the design so far and the remaining bytes have the same result as the bytes from the start on
abbrev pub invariant-loop-event : goal.invariant-loop-event
invariant-loop-event g l = record {
  at : l.at + length l.rest ≡ l.start + length l.bytes;
  there : length l.rest ≤ length l.bytes;
  left : l.rest ≡ drop (length l.bytes - length l.rest) l.bytes;
  place : IsTrue (is_point_within JUMP_LIMIT l.place);
  on : ContinuesAs
      (record_state_at g.R.RecordReader.layout (g.R.RecordReader.records l.fn.reader) l.fn.design l.fn.place (stage.Records false))
      (record_state_at g.R.RecordReader.layout (g.R.RecordReader.records l.reader) l.design l.place (stage.Records false))
      l.start l.at l.bytes l.rest;
}

abbrev pub decreases-loop-event : goal.decreases-loop-event
decreases-loop-event g l = length l.rest
