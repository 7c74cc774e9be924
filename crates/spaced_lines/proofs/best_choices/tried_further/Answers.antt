use Rattle.std.proofs.Common.{◌∙◌, ℕ, ap, get_or, subst, sym, take, arith}
use Rattle.std.proofs.lemmas.List.{length-take-le}
use Rattle.design_model.specs.Points.{origin}
use Rattle.spaced_lines.specs.BestChoices.{IsChainEnd, best_leaving}
use Rattle.spaced_lines.specs.declared.best.Best.{Best}
use Rattle.spaced_lines.proofs.ChainLemmas.{chain_end_is_best, may_be_left_out}
use Rattle.spaced_lines.proofs.ChoiceLemmas.{counted}
use Rattle.spaced_lines.proofs.best_choices.tried_further.Goals as goal

pub returns-then-is_stitch-clause-value : goal.returns-then-is_stitch-clause-value
returns-then-is_stitch-clause-value c = λ stays nearest room so_far.
    let e = c.chain_end-end.result in
    let after = c.args.after.now in
    c.with.ensures.value
    ∙ (chain_end_is_best stays c.args.rule c.args.p nearest after c.args.bests.now c.args.tried.left e c.requires.there c.requires.sized
    c.if-end-n.true
    (subst (λ (other : Best). IsChainEnd c.args.p after c.args.bests.now c.args.tried.left other e) so_far
    (c.chain_end-end.ensures.end c.if-end-n.true))
    (may_be_left_out stays c.args.rule c.args.p (get_or after e origin) (take e after)
    (let size = length-take-le e after (omega (arith, c.chain_end-end.ensures.most, c.requires.there)) in
    omega (arith, size, c.chain_end-end.ensures.most, c.requires.most))
    (counted stays e after (omega (arith, room, c.chain_end-end.ensures.most)))
    (sym c.is_stitch.ensures ∙ c.if-is_stitch.true))
    ∙ ap (λ (k : ℕ). best_leaving stays c.args.rule c.args.p nearest after c.args.bests.now k)
    (let some = c.chain_end-end.ensures.some c.requires.some in omega (arith, some)))
