use Rattle.std.proofs.Common.{List, ℕ, ap, cond, ltb, ◌∙◌}
use Rattle.blossom_match.proofs.Names.{matches_in, Match}
use Rattle.blossom_match.proofs.InitialDualLemmas.{half_free}
use Rattle.blossom_match.proofs.initial_duals.half_matching.Goals as goal

pub returns-clause-stands : goal.returns-clause-stands
returns-clause-stands c =
    half_free c.args.t.now _ c.in_ok-free.free.items c.in_ok-heights.heights.items
    (ap (λ (cs : List Match). matches_in c.in_ok-sets.sets cs) c.new.ensures.items)
    (λ x. c.in_ok-free.ensures.counts x ∙ ap (λ (n : ℕ). cond (ltb x n) 1 0) c.places-2.ensures.value) c.in_ok-heights.ensures.half
    c.in_ok-heights.ensures.size
