use Rattle.design_picture.proofs.PassLemmas.{none_sewn}
use Rattle.design_picture.specs.declared.sewn_stitches.SewnStitches.{SewnStitches}
use Rattle.design_picture.proofs.sewn_stitches.SewnStitches.with_room.Goals as goal

pub returns : goal.returns
returns c =
    let sewn : SewnStitches = record { passes = c.in_ok-passes.passes; arrows = c.new.result } in
    none_sewn sewn c.in_ok-passes.ensures.empty c.new.ensures.empty
