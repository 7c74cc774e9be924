use Rattle.std.proofs.Common.{◌+◌, arith, length, subst, sym}
use Rattle.format_traits.specs.Feeding.{Feeds}
use Rattle.pes_codec.specs.FileStates.{KeepsStage, file_feed_state}
use Rattle.pes_codec.specs.declared.file_stage.FileStage.{FileStage}
use Rattle.pes_codec.proofs.Names.{front_layout_of}
use Rattle.pes_codec.proofs.BlockStates.{block_state}
use Rattle.pes_codec.proofs.FileLemmas.{behind_after, passes_behind}
use Rattle.pes_codec.proofs.block_format.BlockFormatFormat.feed.Goals as goal

pub invariant_of-self-in-Behind : goal.invariant_of-self-in-Behind
invariant_of-self-in-Behind g c =
    let s = c.args.self.now in
    let layout = front_layout_of g.F.FileFormat.kind in
    let chunk = c.args.chunk.now in
    let k = subst (λ (at : FileStage). KeepsStage layout s.front.items s.taken s.skip (block_state s.block) at) c.in-Behind.is s.keeps in
    record {
      keeps = subst (λ (at : FileStage). KeepsStage layout s.front.items (s.taken + length chunk) c.pass.new.skip
          (block_state c.pass.new.block) at)
          (sym c.in-Behind.is)
          (behind_after chunk s.skip c.pass.new.skip (s.taken + length chunk) (block_state s.block) (block_state c.pass.new.block)
          c.pass.result (c.pass.ensures.feeds 0) c.pass.ensures.there (omega (arith, c.pass.ensures.most, k.most)));
    }

pub returns-in-Behind-clause-feeds : goal.returns-in-Behind-clause-feeds
returns-in-Behind-clause-feeds g c =
    let s = c.args.self.now in
    let layout = front_layout_of g.F.FileFormat.kind in
    let chunk = c.args.chunk.now in
    subst (λ (at : FileStage). Feeds (file_feed_state layout s.front.items s.taken s.skip (block_state s.block) at) chunk c.pass.result
    (file_feed_state layout s.front.items (s.taken + length chunk) c.pass.new.skip (block_state c.pass.new.block) at)) (sym c.in-Behind.is)
    (passes_behind layout s.front.items chunk s.taken s.skip c.pass.new.skip (block_state s.block) (block_state c.pass.new.block)
    c.pass.result (c.pass.ensures.feeds s.taken))
