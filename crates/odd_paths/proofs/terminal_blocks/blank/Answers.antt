use Rattle.std.proofs.Common.{◌∙◌, ◌++◌, ◌∷◌, [], List, ℕ, ap, replicate}
use Rattle.odd_paths.proofs.Names.{LANES, NO_WALK, replicate-append-replicate}
use Rattle.odd_paths.proofs.terminal_blocks.blank.Goals as goal

pub loop-lane-preserved : goal.loop-lane-preserved
loop-lane-preserved c =
    let lane : List ℕ = replicate LANES NO_WALK in
    c.in_ok-push.ensures.items ∙ (ap (λ (table : List (List ℕ)). table ++ lane ∷ []) c.loop-lane.invariant
    ∙ replicate-append-replicate c.loop-lane._lane 1 lane)
