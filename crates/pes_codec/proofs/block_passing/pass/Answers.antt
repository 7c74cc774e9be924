use Rattle.std.proofs.Common.{arith}
use Rattle.pes_codec.proofs.BlockStates.{block_state}
use Rattle.pes_codec.proofs.FileLemmas.{passes_short}
use Rattle.pes_codec.proofs.block_passing.pass.Goals as goal

pub returns-then-length-skip-clause-feeds : goal.returns-then-length-skip-clause-feeds
returns-then-length-skip-clause-feeds c = λ taken.
    passes_short c.args.skip.now taken (block_state c.args.block.now) c.args.bytes.now c.if-length-skip.true
    (c.requires.sound (omega (arith, c.if-length-skip.true)))
