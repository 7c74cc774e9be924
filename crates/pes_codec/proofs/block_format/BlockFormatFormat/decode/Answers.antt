use Rattle.pes_codec.proofs.block_format.BlockFormatFormat.decode.Goals as goal

pub returns : goal.returns
returns g c = rw c.kind.ensures at c.read_file.ensures
