use Rattle.std.proofs.Common.{◌≡◌, ◌+◌, ◌-◌, ◌∷◌, ◌++◌, drop, option_to_list, arith, ap, subst, ◌∙◌}
use Rattle.std.proofs.lemmas.List.{at_drop_more}
use Rattle.design_picture.proofs.Names.{acts_after, HasCounted}
use Rattle.design_picture.proofs.StrokeLemmas.{moves_next, shows_next}
use Rattle.design_picture.proofs.strokes.put_along.Goals as goal

pub loop-command-preserved : goal.loop-command-preserved
loop-command-preserved c =
    let now = c.loop-command in
    let commands = c.args.commands.now in
    let left = drop (now.command-index + 1) commands in
    let is : acts_after now.scanner (drop now.command-index commands) ≡ c.in-Some.act ∷ acts_after c.next.new.self left =
    at_drop_more (acts_after now.scanner) commands now.command-index _ c.loop-command-test.true
    ∙ c.next.ensures.value left ∙ ap (λ r. option_to_list r ++ acts_after c.next.new.self left) c.in-Some.is in
    let at : c.next.new.self.number - 1 ≡ now.command-index = omega (arith, c.next.ensures.number, now.invariant.number) in
    record {
      number = omega (arith, c.next.ensures.number, now.invariant.number);
      counted = subst (λ n. HasCounted (n + 1) c.after-pen.result) at c.after-pen.ensures.counted;
      shown = shows_next c.args.design.now _ _ _ _ _ _ _ _ _ _ is c.after-pen.ensures.value
          (c.in_ok-put_stroke.ensures c.in-Some.act.number (acts_after c.next.new.self left)) now.invariant.shown;
      pen = moves_next _ _ _ _ _ _ is c.after-pen.ensures.value now.invariant.pen;
    }
