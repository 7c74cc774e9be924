use Rattle.std.proofs.Common.{◌∙◌, refl, ◌+◌, ◌==◌, ◌&&◌, ℕ, List, Some, drop, arith, nat_le, sym}
use Rattle.std.proofs.lemmas.List.{at_drop_more}
use Rattle.std.specs.HashMap.{get}
use Rattle.std.specs.Prelude.{if◌then◌else◌}
use Rattle.design_review.specs.Crowds.{has_key}
use Rattle.design_review.specs.NeedleKeys.{count_near}
use Rattle.design_review.proofs.CrowdLemmas.{crowd_next}
use Rattle.design_review.proofs.WindowLemmas.{columns_before}
use Rattle.design_review.proofs.crowds.crowds_among.Goals as goal

pub loop-key-init : goal.loop-key-init
loop-key-init c = record {
  columns = λ j after inside. c.new-columns.ensures c.args.keys.now _;
  crowds = λ key. rw c.new-crowds.ensures.empty refl;
}

pub loop-key-preserved : goal.loop-key-preserved
loop-key-preserved c =
    let keys = c.args.keys.now in
    let at = c.loop-key.key-index in
    record {
      columns = λ j after inside. columns_before keys _ _ _ (c.requires.sorted at j 0 (omega (arith, after)) inside)
          c.at-columns.ensures.at;
      crowds = λ key. crowd_next c.args.least _ key (drop (at + 1) keys) keys _ _
          (rw (c.size.ensures keys _ c.at-columns.ensures.at) at (c.in_ok-put_crowd.ensures key))
          ∙ sym (at_drop_more (λ (left : List ℕ). if has_key left key && nat_le c.args.least (count_near keys key)
          then Some (count_near keys key) else get (λ a b. a == b) c.loop-key.crowds key) keys at _ c.loop-key-test.true)
          ∙ c.loop-key.invariant.crowds key;
    }
