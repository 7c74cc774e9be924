use Rattle.std.proofs.Common.{◌≡◌, ◌+◌, ◌∷◌, ◌++◌, drop, option_to_list, arith, ap, ◌∙◌}
use Rattle.std.proofs.lemmas.List.{at_drop_more}
use Rattle.design_model.specs.ActScanners.{acts_after}
use Rattle.thumbnails.proofs.SketchLemmas.{draws_next}
use Rattle.thumbnails.proofs.sketch.sketch_along.Goals as goal

pub loop-command-preserved : goal.loop-command-preserved
loop-command-preserved c =
    let now = c.loop-command in
    let commands = c.args.commands.now in
    let left = drop (now.command-index + 1) commands in
    let is : acts_after now.scanner (drop now.command-index commands) ≡ c.in-Some.act ∷ acts_after c.next.new.self left =
    at_drop_more (acts_after now.scanner) commands now.command-index _ c.loop-command-test.true
    ∙ c.next.ensures.value left ∙ ap (λ r. option_to_list r ++ acts_after c.next.new.self left) c.in-Some.is in
    record {
      number = omega (arith, c.next.ensures.number, now.invariant.number);
      drawn = draws_next _ _ _ _ _ _ _ is c.in_ok-draw.ensures now.invariant.drawn;
    }
