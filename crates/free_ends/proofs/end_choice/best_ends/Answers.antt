use Rattle.std.proofs.Common.{ℕ, List, subst, sym, ◌∙◌}
use Rattle.free_ends.proofs.Names.{AreTerminals, graph_of, odds_are_terminals}
use Rattle.free_ends.proofs.end_choice.best_ends.Goals as goal

pub rows-requires : goal.rows-requires
rows-requires c =
    subst (λ (ts : List ℕ). AreTerminals (graph_of c.args.p.now) ts) (sym (c.as_slice.ensures ∙ c.in_ok-odds.ensures.value))
    (odds_are_terminals (graph_of c.args.p.now))
