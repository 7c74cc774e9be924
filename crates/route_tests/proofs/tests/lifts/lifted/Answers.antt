use Rattle.std.proofs.Common.{List, refl, subst, sym, ℕ, ◌∙◌}
use Rattle.line_graph.specs.PiecesOfDrawings.{graph_of}
use Rattle.odd_paths.specs.LeastRows.{AreTerminals}
use Rattle.route_tests.proofs.LiftableMoats.{moats_are}
use Rattle.route_tests.proofs.tests.lifts.lifted.Goals as goal
use Rattle.odd_paths.proofs.CallerLemmas.{odds_are_terminals}

pub rows-requires : goal.rows-requires
rows-requires c =
    subst (λ (ts : List ℕ). AreTerminals (graph_of c.args.p.now) ts) (sym (c.as_slice-places.ensures ∙ c.in_ok-odds.ensures.value))
    (odds_are_terminals (graph_of c.args.p.now))

pub lift-requires : goal.lift-requires
lift-requires c = record {
  moats =
      moats_are (graph_of c.args.p.now) c.in_ok-rows.rows c.args.moats.now c.as_slice-all.result.now c.as_slice-places.result.now
      c.in_ok-rows.ensures.rows c.in_ok-rows.ensures.terminals (c.as_slice-places.ensures ∙ c.in_ok-odds.ensures.value)
      c.as_slice-all.ensures (c.if-not-all_odd.ensures.0 refl) (c.if-not-all_laminar.ensures.0 refl)
      (c.if-not-have_small_loads.ensures refl);
}
