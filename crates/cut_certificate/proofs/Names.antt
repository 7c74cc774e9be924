-- Names from elsewhere that several files of these proofs use.
pub use Rattle.std.proofs.lemmas.Bool.{and_from, and_parts, and_right, both_ways, cases_Bool, cases_eq, cases_lt, eq-eqb, eqb-true, le-leb}
pub use Rattle.std.proofs.lemmas.Bool.{le-ltb, lt-leb, lt-ltb, ltb-true, ne_eqb, or_cases, or_right}
pub use Rattle.std.proofs.lemmas.Bool.Decides.{nat_tests}
pub use Rattle.std.proofs.lemmas.List.{drop_all, get_or-replicate, length-replicate, take_all}
pub use Rattle.std.proofs.lemmas.List.Elements.{All-append, All-get_or, All-head, All-more, All-nil, All-push, All-tail, All-weaker}
pub use Rattle.std.proofs.lemmas.List.Recursion.{is_count_by, is_sum_by}
pub use Rattle.std.proofs.lemmas.List.Sums.{sum_by-append, sum_by-cons, sum_by_push}
pub use Rattle.std.proofs.lemmas.Option.{get_or_from_slice_get, slice_get-get_or, slice_get_cases, slice_get_read, slice_get_within}
pub use Rattle.std.specs.List.{count_by}
pub use Rattle.std.specs.Prelude.{if◌then◌else◌, slice_index}
pub use Rattle.blossom_match.specs.Matchings.{AreLaminar, IsOddMoat, crosses_moat, moat_load, width_of}
pub use Rattle.blossom_match.specs.declared.matching.Moat.{Moat}
pub use Rattle.cut_certificate.specs.Levels.{LiftInput, depth, distance_beyond, is_inner, level, lift_input, lowest, width_sum}
pub use Rattle.cut_certificate.specs.Lifts.{AreLiftableMoats, IsLifted}
pub use Rattle.cut_certificate.specs.MoatCuts.{AddsCuts, AreCutsTo, IsLevelCut, distance_between, members_from}
pub use Rattle.cut_certificate.specs.MoatDistances.{AreAllMoatDistances, AreDistancesFrom, HasDistance, HasRowsForMoats, IsNextMoat}
pub use Rattle.cut_certificate.specs.MoatDistances.{IsProgress, distance_from, lesser_of, lowered_distance}
pub use Rattle.cut_certificate.specs.TerminalStates.{AreTerminalStates, IsFirst, IsOutermost, IsProcessed, IsUncovered, covered, surrounded}
pub use Rattle.cut_certificate.specs.declared.terminal_state.TerminalState.{TerminalState}
pub use Rattle.line_graph.specs.declared.limits.TheConstants.{MAX_COST, MAX_LINES}
pub use Rattle.line_graph.specs.PieceGraphs.{PieceValue, odd_junctions}
pub use Rattle.line_graph.specs.PieceWalks.{all_greater, is_strictly_increasing}
pub use Rattle.line_graph.specs.PiecesOfDrawings.{graph_of}
pub use Rattle.line_graph.specs.declared.edge.Edge.{Edge}
pub use Rattle.design_model.proofs.ListLemmas.{front_written, same_test}
pub use Rattle.odd_cuts.specs.Cuts.{crosses, has_member, load_on, total_weight}
pub use Rattle.odd_cuts.specs.Packings.{IsOddCut, IsPacking, IsPlainCut}
pub use Rattle.odd_cuts.specs.declared.cut.Cut.{Cut}
pub use Rattle.odd_paths.specs.LeastRows.{RowsValue, cost_at, cost_in, length_in, terminal_of}
