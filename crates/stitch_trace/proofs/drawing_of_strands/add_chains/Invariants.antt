use Rattle.std.proofs.Common.{◌≡◌, drop}
use Rattle.stitch_trace.proofs.Names.{chains_added}
use Rattle.stitch_trace.proofs.drawing_of_strands.add_chains.Given as goal

-- with the chains that are left, the drawing becomes the specified one
abbrev pub invariant-loop-chain : goal.invariant-loop-chain
invariant-loop-chain l = chains_added l.maker (drop l.chain-index l.chain-items) ≡ chains_added l.fn.maker l.chains
