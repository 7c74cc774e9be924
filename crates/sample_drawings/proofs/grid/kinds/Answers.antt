use Rattle.sample_drawings.proofs.Names.{cells_per_side, cell_kind}
use Rattle.sample_drawings.proofs.DrawLemmas.{kind_next, place_added, state_told}
use Rattle.sample_drawings.proofs.grid.kinds.Goals as goal

pub loop-preserved : goal.loop-preserved
loop-preserved c =
    let number = c.args.number in
    let now = c.loop in
    record {
      kinds = place_added (cells_per_side number) now.counter (cell_kind number) now.kinds _ _ now.invariant.kinds
          (kind_next number now.counter _ _ now.invariant.state c.draw.ensures.value) c.in_ok-push.ensures.ok;
      state = state_told number _ now.counter _ _ now.invariant.state c.draw.ensures.state;
    }
