use Rattle.std.proofs.Common.{arith, ◌∙◌, sym}
use Rattle.pes_codec.proofs.Names.{front_layout_of}
use Rattle.pes_codec.proofs.FileLemmas.{reads_block}
use Rattle.pes_codec.proofs.file_reading.read_file.Goals as goal

pub returns : goal.returns
returns c = rw (reads_block (front_layout_of c.args.kind) c.block.result c.args.bytes.now
    (sym c.is_known.ensures.value ∙ c.if-not-is_known.false)
    (omega (arith, c.length.ensures.value, c.if-bytes-length.false)) c.block.ensures) c.read_block.ensures
