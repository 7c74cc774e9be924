use Rattle.sample_drawings.proofs.Names.{grid_junction, junctions_per_side}
use Rattle.sample_drawings.proofs.DrawLemmas.{junction_next, place_added, state_moved}
use Rattle.sample_drawings.proofs.grid.junctions.Goals as goal

pub loop-place-preserved : goal.loop-place-preserved
loop-place-preserved c =
    let number = c.args.number in
    let now = c.loop-place in
    record {
      junctions = place_added (junctions_per_side number) now.place (grid_junction number) now.junctions _ _
          now.invariant.junctions
          (junction_next number _ now.place _ _ c.junction_count-columns.ensures.value now.invariant.state
          c.draw_junction.ensures.value)
          c.in_ok-push.ensures.ok;
      state = state_moved number now.place _ _ now.invariant.state c.draw_junction.ensures.state;
    }
