use Rattle.std.proofs.Common.{◌∙◌, ◌*◌, ◌<◌, ◌≤◌, ◌^◌, ℕ, ap, subst, sym}
use Rattle.design_model.specs.Lengths.{length_of}
use Rattle.near_pieces.proofs.RootLemmas.{axes_no_more}
use Rattle.near_pieces.proofs.least_travel.least_length.Goals as goal

pub returns-then-across-down : goal.returns-then-across-down
returns-then-across-down c = subst (λ (n : ℕ). n ≤ length_of c.args.from c.args.to)
    (sym (c.hundredfold-down.ensures.value ∙ ap (λ (n : ℕ). 100 * n) c.way_down.ensures))
    ((axes_no_more c.args.from c.args.to).1 (subst (λ (n : ℕ). n < 2 ^ 32) c.way_down.ensures c.hundredfold-down.ensures.small))

pub returns : goal.returns
returns c = subst (λ (n : ℕ). n ≤ length_of c.args.from c.args.to)
    (sym (c.hundredfold-across.ensures.value ∙ ap (λ (n : ℕ). 100 * n) c.way_across.ensures))
    ((axes_no_more c.args.from c.args.to).0 (subst (λ (n : ℕ). n < 2 ^ 32) c.way_across.ensures c.hundredfold-across.ensures.small))
