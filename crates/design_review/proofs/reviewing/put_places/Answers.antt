use Rattle.std.proofs.Common.{◌≡◌, ◌∙◌, ◌+◌, ◌∷◌, ◌++◌, List, drop, option_to_list, [], ap, subst, arith}
use Rattle.std.proofs.lemmas.List.{at_drop_more}
use Rattle.design_model.specs.declared.act.NumberedAct.{NumberedAct}
use Rattle.design_model.specs.Acts.{acts_along}
use Rattle.design_model.specs.ActScanners.{acts_after}
use Rattle.design_review.specs.KnownReviews.{known_review}
use Rattle.design_review.specs.Places.{places_from, reported_after_act}
use Rattle.design_review.specs.SewnActs.{HasSewn, nothing_sewn}
use Rattle.design_review.proofs.ReviewLemmas.{HasNeedles, all_dropped, needle_among, needles_next, places_next}
use Rattle.design_review.proofs.reviewing.put_places.Goals as goal

pub put_act-requires-clause-among : goal.put_act-requires-clause-among
put_act-requires-clause-among c =
    let now = c.loop-command in
    let commands = c.args.commands.now in
    let left = drop (now.command-index + 1) commands in
    let is : acts_after now.scanner (drop now.command-index commands) ≡ c.in-Some.act ∷ acts_after c.next.new.self left =
    at_drop_more (acts_after now.scanner) commands now.command-index _ c.loop-command-test.true
    ∙ c.next.ensures.value left ∙ ap (λ r. option_to_list r ++ acts_after c.next.new.self left) c.in-Some.is in
    needle_among c.args.known.needles.now now.sewn c.in-Some.act (acts_after c.next.new.self left)
    (subst (λ (acts : List NumberedAct). HasNeedles c.args.known.needles.now now.sewn acts) is now.invariant.needles)

pub loop-command-preserved : goal.loop-command-preserved
loop-command-preserved c =
    let now = c.loop-command in
    let commands = c.args.commands.now in
    let known = known_review c.args.known in
    let reported = now.invariant.reported in
    let left = drop (now.command-index + 1) commands in
    let is : acts_after now.scanner (drop now.command-index commands) ≡ c.in-Some.act ∷ acts_after c.next.new.self left =
    at_drop_more (acts_after now.scanner) commands now.command-index _ c.loop-command-test.true
    ∙ c.next.ensures.value left ∙ ap (λ r. option_to_list r ++ acts_after c.next.new.self left) c.in-Some.is in
    let put = c.in_ok-put_act.ensures reported now.invariant.noted in
    record {
      number = omega (arith, c.next.ensures.number, now.invariant.number);
      counted = subst (λ n. HasSewn (n + 1) c.after-sewn.result) now.invariant.number c.after-sewn.ensures.counted;
      in_range = all_dropped commands now.command-index now.invariant.in_range;
      needles = rw c.after-sewn.ensures.value (needles_next c.args.known.needles.now now.sewn c.in-Some.act
          (acts_after c.next.new.self left)
          (subst (λ (acts : List NumberedAct). HasNeedles c.args.known.needles.now now.sewn acts) is now.invariant.needles));
      within = rw (c.after-sewn.ensures.value, c.requires.threads) (needles_next c.args.known.needles.now now.sewn c.in-Some.act
          (acts_after c.next.new.self left)
          (subst (λ (acts : List NumberedAct). HasNeedles c.args.known.needles.now now.sewn acts) is now.invariant.needles)).within;
      reported = reported_after_act known reported c.in-Some.act.act;
      noted = put.noted;
      places = rw c.after-sewn.ensures.value (places_next known reported now.sewn c.in-Some.act (acts_after c.next.new.self left) _ _ _
          put.places (subst (λ (acts : List NumberedAct). now.places ++ places_from known reported now.sewn acts
          ≡ c.args.places.now ++ places_from known [] nothing_sewn (acts_along commands)) is now.invariant.places));
    }
