use Rattle.std.proofs.Common.{◌+◌, ◌≤◌, ℕ, List, true, ap, arith, length, length-append, subst, sym}
use Rattle.format_traits.specs.Feeding.{Feeds, IsFed}
use Rattle.pes_codec.specs.FileStates.{KeepsStage, block_feed_state, file_feed_state}
use Rattle.pes_codec.specs.declared.file_stage.FileStage.{FileStage}
use Rattle.pes_codec.specs.declared.file_stage.FileStage.TheVariants as stage
use Rattle.pes_codec.proofs.Names.{front_layout_of}
use Rattle.pes_codec.proofs.BlockStates.{block_state}
use Rattle.pes_codec.proofs.FileLemmas.{behind_after, broke_behind, feeds_behind, refuses_front, stays_at, stays_in_front, stays_known}
use Rattle.pes_codec.proofs.block_format.BlockFormat.feed_front.Goals as goal

pub returns-then-len-length : goal.returns-then-len-length
returns-then-len-length g c =
    let s = c.args.self.now in
    let layout = front_layout_of g.F.FileFormat.kind in
    let new = c.fill-behind.new.front.items in
    let k = subst (λ (at : FileStage). KeepsStage layout s.front.items s.taken s.skip (block_state s.block) at) c.requires.stage s.keeps in
    subst (λ (at : FileStage). IsFed (file_feed_state layout s.front.items s.taken s.skip (block_state s.block) at) c.args.chunk.now
    (file_feed_state layout new (s.taken + length c.args.chunk.now) s.skip (block_state s.block) at)) (sym c.requires.stage)
    (stays_in_front layout s.front.items c.args.chunk.now new c.fill-behind.result.now s.taken s.skip (block_state s.block) k
    c.fill-behind.ensures.all
    (c.fill-behind.ensures.left
    (omega (arith, c.if-len-length.true, c.len.ensures.value, c.length.ensures.value, c.length-2.ensures.value))))

pub returns-then-not-is_known : goal.returns-then-not-is_known
returns-then-not-is_known g c =
    let s = c.args.self.now in
    let layout = front_layout_of g.F.FileFormat.kind in
    let new = c.fill-behind.new.front.items in
    let k = subst (λ (at : FileStage). KeepsStage layout s.front.items s.taken s.skip (block_state s.block) at) c.requires.stage s.keeps in
    let told = rw c.kind-kind.ensures at c.length-2.ensures.value in
    let long : layout.length ≤ length new = omega (arith, told, c.if-len-length.false, c.len.ensures.value) in
    subst (λ (at : FileStage). IsFed (file_feed_state layout s.front.items s.taken s.skip (block_state s.block) at) c.args.chunk.now
    (file_feed_state layout new (s.taken + length c.args.chunk.now) s.skip (block_state s.block) stage.Refused)) (sym c.requires.stage)
    (refuses_front layout s.front.items c.args.chunk.now new c.fill-behind.result.now s.taken s.skip (block_state s.block) k
    c.fill-behind.ensures.all
    (stays_known c.kind-kind.result g.F.FileFormat.kind c.is_known.result _ c.as_slice.result.now new c.kind-kind.ensures
    c.as_slice.ensures.value c.if-not-is_known.true c.is_known.ensures.stays long))

pub invariant_of-self-in-Break-1 : goal.invariant_of-self-in-Break-1
invariant_of-self-in-Break-1 g c =
    let s = c.args.self.now in
    let layout = front_layout_of g.F.FileFormat.kind in
    let new = c.fill-behind.new.front.items in
    let k = subst (λ (at : FileStage). KeepsStage layout s.front.items s.taken s.skip (block_state s.block) at) c.requires.stage s.keeps in
    record {
      keeps = record {
        sound = λ some. absurd (omega (arith, some, c.in_err-pass.ensures.there));
        most = omega (
          arith,
          c.in_err-pass.ensures.most,
          c.begin.ensures.taken,
          ap length c.as_slice-3.ensures.value,
          ap length c.fill-behind.ensures.all,
          length-append new c.fill-behind.result.now,
          length-append s.front.items c.args.chunk.now,
          k.all,
        );
      };
    }

pub returns-in_err-pass : goal.returns-in_err-pass
returns-in_err-pass g c =
    let s = c.args.self.now in
    let layout = front_layout_of g.F.FileFormat.kind in
    let new = c.fill-behind.new.front.items in
    subst (λ (at : FileStage). Feeds (file_feed_state layout s.front.items s.taken s.skip (block_state s.block) at) c.args.chunk.now
    c.from_residual.result
    (file_feed_state layout new (s.taken + length c.args.chunk.now) c.pass.new.skip (block_state c.pass.new.block) stage.Behind))
    (sym c.requires.stage)
    (broke_behind layout s.front.items c.args.chunk.now new s.taken s.skip c.pass.new.skip (block_state s.block)
    (block_state c.pass.new.block) c.from_residual.result c.from_residual.ensures.0 (c.in_err-pass.ensures.feeds 0).spoiled)

pub pass-requires-2-clause-room : goal.pass-requires-2-clause-room
pass-requires-2-clause-room g c =
    let s = c.args.self.now in
    let layout = front_layout_of g.F.FileFormat.kind in
    let new = c.fill-behind.new.front.items in
    let k = subst (λ (at : FileStage). KeepsStage layout s.front.items s.taken s.skip (block_state s.block) at) c.requires.stage s.keeps in
    omega (
      arith,
      c.requires.room,
      c.in_ok-pass.ensures.most,
      c.begin.ensures.taken,
      ap length c.as_slice-3.ensures.value,
      ap length c.fill-behind.ensures.all,
      length-append new c.fill-behind.result.now,
      length-append s.front.items c.args.chunk.now,
      k.all,
    )

pub pass-requires-2-clause-sound : goal.pass-requires-2-clause-sound
pass-requires-2-clause-sound g c = λ some. (c.in_ok-pass.ensures.feeds 0).sound

pub invariant_of-self-2 : goal.invariant_of-self-2
invariant_of-self-2 g c =
    let s = c.args.self.now in
    let layout = front_layout_of g.F.FileFormat.kind in
    let new = c.fill-behind.new.front.items in
    let k = subst (λ (at : FileStage). KeepsStage layout s.front.items s.taken s.skip (block_state s.block) at) c.requires.stage s.keeps in
    record {
      keeps = behind_after c.fill-behind.result.now c.pass.new.skip c.pass-2.new.skip (s.taken + length c.args.chunk.now)
          (block_state c.pass.new.block) (block_state c.pass-2.new.block) c.pass-2.result (c.pass-2.ensures.feeds 0) c.pass-2.ensures.there
          (omega (
            arith,
            c.pass-2.ensures.most,
            c.in_ok-pass.ensures.most,
            c.begin.ensures.taken,
            ap length c.as_slice-3.ensures.value,
            ap length c.fill-behind.ensures.all,
            length-append new c.fill-behind.result.now,
            length-append s.front.items c.args.chunk.now,
            k.all,
          ));
    }

pub returns : goal.returns
returns g c =
    let s = c.args.self.now in
    let layout = front_layout_of g.F.FileFormat.kind in
    let new = c.fill-behind.new.front.items in
    let behind = c.fill-behind.result.now in
    let at = c.block.result in
    let mid = block_state c.pass.new.block in
    let k = subst (λ (at : FileStage). KeepsStage layout s.front.items s.taken s.skip (block_state s.block) at) c.requires.stage s.keeps in
    let told = rw c.kind-kind.ensures at c.length-2.ensures.value in
    let long : layout.length ≤ length new = omega (arith, told, c.if-len-length.false, c.len.ensures.value) in
    let known = stays_known c.kind-kind.result g.F.FileFormat.kind c.is_known.result true c.as_slice.result.now new c.kind-kind.ensures
    c.as_slice.ensures.value c.if-not-is_known.false c.is_known.ensures.stays long in
    let is = stays_at c.kind-kind.result g.F.FileFormat.kind at c.as_slice-2.result.now new c.kind-kind.ensures c.as_slice-2.ensures.value
    c.block.ensures in
    let one = subst (λ (bytes : List ℕ). IsFed (block_feed_state at 0 (block_state c.begin.new.self)) bytes
    (block_feed_state c.pass.new.skip (0 + length bytes) mid)) c.as_slice-3.ensures.value (c.in_ok-pass.ensures.feeds 0) in
    subst (λ (at : FileStage). Feeds (file_feed_state layout s.front.items s.taken s.skip (block_state s.block) at) c.args.chunk.now
    c.pass-2.result (file_feed_state layout new (s.taken + length c.args.chunk.now) c.pass-2.new.skip
    (block_state c.pass-2.new.block) stage.Behind)) (sym c.requires.stage)
    (feeds_behind layout s.front.items c.args.chunk.now new behind s.taken s.skip at c.pass.new.skip c.pass-2.new.skip (block_state s.block)
    (block_state c.begin.new.self) mid (block_state c.pass-2.new.block) c.pass-2.result k c.fill-behind.ensures.all long known is
    c.begin.ensures one (c.pass-2.ensures.feeds (0 + length new)))
