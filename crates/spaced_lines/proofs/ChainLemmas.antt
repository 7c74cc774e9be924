-- The end of a chain of choices is the best of them where it is allowed.
use Rattle.std.proofs.Common.{◌≡◌, ◌∙◌, ℕ, zero, suc, ◌+◌, ◌-◌, ◌≤◌, ◌<◌, Bool, true, false, ◌&&◌, List, [], ◌∷◌, length, take, get_or, if◌then◌else◌, refl, ap, sym, subst, arith}
use Rattle.std.proofs.lemmas.Bool.Decides.{nat_tests}
use Rattle.std.proofs.lemmas.List.{length-take-le}
use Rattle.design_model.specs.Points.{origin}
use Rattle.design_model.specs.declared.point.Point.{Point}
use Rattle.spaced_lines.specs.BestChoices.{IsChainEnd, best_leaving, best_with, choice_at, is_better, no_stitch}
use Rattle.spaced_lines.specs.SpacingRules.{does_none_stay, is_stitch_for, may_leave_out}
use Rattle.spaced_lines.specs.declared.best.Best.{Best}
use Rattle.spaced_lines.specs.declared.spacing_rule.SpacingRule.{SpacingRule}
use Rattle.spaced_lines.specs.declared.spacing_rule.TheConstants.{MAX_LEFT_OUT}
use Rattle.spaced_lines.proofs.ChoiceLemmas.{next_over}

-- a choice that is better than two is better than either
than_either : (best new other : Best) (t : Bool) → is_better best new ≡ true → is_better best other ≡ true
    → is_better best (if t then new else other) ≡ true
than_either best new other true than_new than_other = than_new
than_either best new other false than_new than_other = than_other

both : (a b : Bool) → a ≡ true → b ≡ true → (a && b) ≡ true
both a b h1 h2 = grind (arith, nat_tests)

taken_if : (new other : Best) (t : Bool) → t ≡ true → (if t then new else other) ≡ new
taken_if new other t h1 = grind (arith, nat_tests)

-- the choices that leave out a number of points, and the best of those that leave out more
next_leaving : (stays : Point → Bool) (rule : SpacingRule) (p : Point) (nearest : Best) (after : List Point) (bests : List Best) (k : ℕ)
    → k < length after → length bests ≡ length after
    → best_leaving stays rule p nearest after bests k ≡ (if is_better (choice_at p after bests k)
    (best_leaving stays rule p nearest after bests (k + 1)) && may_leave_out stays rule p (take k after)
    (get_or after k origin) then choice_at p after bests k else best_leaving stays rule p nearest after bests (k + 1))
next_leaving stays rule p nearest after bests k less sized =
    next_over stays rule p nearest after bests k origin no_stitch less sized
    ∙ ap (λ (m : ℕ). if is_better (best_with p (get_or after k origin) m (get_or bests k no_stitch))
    (best_leaving stays rule p nearest after bests (k + 1)) && may_leave_out stays rule p (take k after)
    (get_or after k origin) then best_with p (get_or after k origin) m
    (get_or bests k no_stitch) else best_leaving stays rule p nearest after bests (k + 1))
    (length-take-le k after (omega (arith, less)))

-- the end of a chain is better than the best of those that leave out more points
worse : (stays : Point → Bool) (rule : SpacingRule) (p : Point) (nearest : Best) (after : List Point) (bests : List Best) (n e k d : ℕ)
    → n < length after → length bests ≡ length after → k + d ≡ n + 1 → e < k
    → IsChainEnd p after bests n (best_leaving stays rule p nearest after bests (n + 1)) e
    → is_better (choice_at p after bests e) (best_leaving stays rule p nearest after bests k) ≡ true
worse stays rule p nearest after bests n e k zero less sized sum beyond chain =
    subst (λ (m : ℕ). is_better (choice_at p after bests e) (best_leaving stays rule p nearest after bests m) ≡ true)
    (omega (arith, sum)) chain.than_other
worse stays rule p nearest after bests n e k (suc d) less sized sum beyond chain =
    subst (λ (best : Best). is_better (choice_at p after bests e) best ≡ true)
    (sym (next_leaving stays rule p nearest after bests k (omega (arith, less, sum)) sized))
    (than_either (choice_at p after bests e) (choice_at p after bests k) (best_leaving stays rule p nearest after bests (k + 1)) _
    (chain.than_each k beyond (omega (arith, sum)))
    (worse stays rule p nearest after bests n e (k + 1) d less sized (omega (arith, sum)) (omega (arith, beyond)) chain))

-- the end of a chain is the best choice of those that leave out as many points or more, if it is allowed
pub chain_end_is_best : (stays : Point → Bool) (rule : SpacingRule) (p : Point) (nearest : Best) (after : List Point) (bests : List Best)
    (n e : ℕ) → n < length after → length bests ≡ length after → e < n
    → IsChainEnd p after bests n (best_leaving stays rule p nearest after bests (n + 1)) e
    → may_leave_out stays rule p (take e after) (get_or after e origin) ≡ true
    → choice_at p after bests e ≡ best_leaving stays rule p nearest after bests e
chain_end_is_best stays rule p nearest after bests n e less sized before chain allowed =
    sym (next_leaving stays rule p nearest after bests e (omega (arith, less, before)) sized
    ∙ taken_if (choice_at p after bests e) (best_leaving stays rule p nearest after bests (e + 1)) _
    (both _ _ (worse stays rule p nearest after bests n e (e + 1) (n - e) less sized (omega (arith, before))
    (omega (arith)) chain) allowed))

-- points that may be left out: they are not too many, none stays, and a stitch stands for them
pub may_be_left_out : (stays : Point → Bool) (rule : SpacingRule) (a b : Point) (out : List Point) → length out ≤ MAX_LEFT_OUT
    → does_none_stay stays out ≡ true → is_stitch_for rule a b out ≡ true → may_leave_out stays rule a out b ≡ true
may_be_left_out stays rule a b [] few none stands = refl
may_be_left_out stays rule a b (q ∷ out) few none stands =
    both _ _ none (both _ _ (grind (arith, nat_tests)) stands)
