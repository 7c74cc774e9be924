-- Names from elsewhere that several files of these proofs use.
pub use Rattle.std.proofs.Math.Seq.{drop-append_seam, take-append_seam}
pub use Rattle.std.proofs.lemmas.Bool.{cases_lt, eq-eqb, eqb-false, eqb-true, lt-ltb, ltb-false, ltb-true, ne_eqb}
pub use Rattle.std.proofs.lemmas.Bool.Decides.{nat_tests}
pub use Rattle.std.proofs.lemmas.List.{append-nil, get_or-drop, get_or-set_other, get_or-take, length-map, length-set, take-append-drop}
pub use Rattle.std.proofs.lemmas.List.{take_all}
pub use Rattle.std.proofs.lemmas.List.Sums.{sum_by-append, sum_by-cons}
pub use Rattle.std.specs.List.{All, AllPairs, list_any}
pub use Rattle.std.specs.Vec.Iter.{into_iter_items}
pub use Rattle.blossom_match.specs.Candidates.{CanFindEdge, FindsSlackInSet, IsBestCandidate, IsCandidate, IsCandidateAmong}
pub use Rattle.blossom_match.specs.Candidates.{IsCandidateChange, change_at, target_vertices}
pub use Rattle.blossom_match.specs.Duals.{Adjusts, CanAdjust, CanChange, CanChangeBranch, CanChangeHeights, CanStepAfter, ChangesDuals}
pub use Rattle.blossom_match.specs.Duals.{ChangesHeights, all_changed, changed_branch, changed_by}
pub use Rattle.blossom_match.specs.InitialDuals.{AreWithinDistances, CanPair, FindsTight, HasFreeSlack, KeepsSlack, PairsFree}
pub use Rattle.blossom_match.specs.LeastChanges.{AllowsChange, CanSearch, IsBlossomDual, IsLeastChange, IsLesserChange, IsLesserChangeAt}
pub use Rattle.blossom_match.specs.LeastChanges.{IsReadyAfter, step_of}
pub use Rattle.blossom_match.specs.Masks.{IsBestShown, IsMask, IsMaskedSlack, IsSearchMask, branch_members, masked_slack}
pub use Rattle.blossom_match.specs.Matchings.{AreLaminar, IsOddMoat, IsOptimalMatching, IsPerfectMatching, KeepsMoatLoads, crosses_moat}
pub use Rattle.blossom_match.specs.Matchings.{moat_holds, moat_load, pair_ends_at, pairs_cost, width_of}
pub use Rattle.blossom_match.specs.OuterSlacks.{AddsOuterSlacks, AreOuterSlacks, AreSearchSlacks, CarriesSlacks, ComputesRootSlacks}
pub use Rattle.blossom_match.specs.OuterSlacks.{HasSlackCells, HasSlacks, HasSoundOuters, IsOuterSlack, IsSlackFromOne, LowersBySet}
pub use Rattle.blossom_match.specs.OuterSlacks.{ReachesEither, SearchHasSoundOuters, slack_from}
pub use Rattle.blossom_match.specs.Phases.{BeginsSearch, IsPartialWithHeights, IsStepResult, MakesProgress, MatchesAll}
pub use Rattle.blossom_match.specs.Searches.{Advances, CanStep, CanStepAt, EndsSearch, ExpandsBranch, GrowsBranch, IsPartialMatching}
pub use Rattle.blossom_match.specs.Searches.{IsSearch, IsStepReady, dual_height, is_place, outer_vertices, search_holding_both, search_size}
pub use Rattle.blossom_match.specs.Searches.{stored_height}
pub use Rattle.blossom_match.specs.States.{partial_value, search_value}
pub use Rattle.blossom_match.specs.Taken.{AreMoatsIn, IsOddMoatIn, IsTakingApart, TakesApartMatches, TakesApartSet, moat_of_set}
pub use Rattle.blossom_match.specs.declared.least.DualChange.{DualChange}
pub use Rattle.blossom_match.specs.declared.least.Kind.{Kind}
pub use Rattle.blossom_match.specs.declared.least.Target.{Target}
pub use Rattle.blossom_match.specs.declared.matching.Moat.{Moat}
pub use Rattle.blossom_match.specs.declared.matching.Pair.{Pair}
pub use Rattle.blossom_match.specs.declared.search.SearchStep.{SearchStep}
pub use Rattle.blossom_match.specs.declared.search.SearchStep.TheVariants.{Augment, Expand, Grow, Shrink}
pub use Rattle.odd_sets.proofs.CallerLemmas.{all_uses, around_append, around_first, around_none, around_same, at_drop, bands_push, base_in}
pub use Rattle.odd_sets.proofs.CallerLemmas.{by_count, by_either, count-append, count_at, drop_here, drop_past, dual_load-append}
pub use Rattle.odd_sets.proofs.CallerLemmas.{dual_load-comm, dual_sets-append, each-append, each-drop, each-left, each-map, each-push}
pub use Rattle.odd_sets.proofs.CallerLemmas.{each-right, each-take, each_here, either, entry-comm, far_is, get_or_self, grown-right}
pub use Rattle.odd_sets.proofs.CallerLemmas.{grown_push, has_slot, height-append, hit_is, hit_same, inserted_keeps, keep_branches}
pub use Rattle.odd_sets.proofs.CallerLemmas.{keep_matches, keep_seat, key_count-append, load_across, load_alone, load_along, low}
pub use Rattle.odd_sets.proofs.CallerLemmas.{lowered_far, lowered_less, lowered_near, made_kept, mapped_at, mapped_cut, mapped_drop}
pub use Rattle.odd_sets.proofs.CallerLemmas.{mapped_item, mapped_low, match_here, members-append, members_each, members_push, more_by}
pub use Rattle.odd_sets.proofs.CallerLemmas.{near_is, near_least, no_branch, no_match, no_slot, none_hold, none_tall, not_hit, number_here}
pub use Rattle.odd_sets.proofs.CallerLemmas.{outer_members_base, outer_places, pairs-append, set_more, set_of, sets_fewer, sets_left}
pub use Rattle.odd_sets.proofs.CallerLemmas.{sets_right, single_near, size-append, some_member, take_here, tight_back, total-append}
pub use Rattle.odd_sets.proofs.CallerLemmas.{two_even, written}
pub use Rattle.odd_sets.specs.Blossoms.{odd_set_of, reversed_edge, vertex_set}
pub use Rattle.odd_sets.specs.DualSets.{DualSet, IsAdditive, IsOddSet, IsOutside, NoneHold, OddSetValue, apart, count, dual_load, dual_sets}
pub use Rattle.odd_sets.specs.DualSets.{height, key_count, members_onto, one_if_equal, total, with_dual}
pub use Rattle.odd_sets.specs.Expansions.{Expands, InsertsBranches}
pub use Rattle.odd_sets.specs.Folds.{FoldsCells, FoldsOuters}
pub use Rattle.odd_sets.specs.Lists.{Each, EachPair, sum_over}
pub use Rattle.odd_sets.specs.MatchedSets.{IsMatch, IsTightMatch, match_dual_sets, match_members}
pub use Rattle.odd_sets.specs.Shrinks.{Shrinks}
pub use Rattle.odd_sets.specs.SlackRows.{MergesSlacks, SetsCells, lowered_slack, vertex_slacks}
pub use Rattle.odd_sets.specs.Slots.{AreSets, InsertsSet, Slots, branch_in, branches_in, core_in, match_in, matches_in, set_in}
pub use Rattle.odd_sets.specs.SoundSets.{IsSoundBranch, IsSoundMatch, IsSoundSet, IsSymmetric, IsTight}
pub use Rattle.odd_sets.specs.TableValue.{TableValue}
pub use Rattle.odd_sets.specs.Tables.{HasTriangleInequality, IsMetric, IsStored, IsTable, after_set, entry}
pub use Rattle.odd_sets.specs.Trees.{Augments, CanAugment, IsAlternatingTree, RemovesMatch, all_dual_sets, branch_by_edge, branch_dual_sets}
pub use Rattle.odd_sets.specs.Trees.{branch_sets, count_holding_both, inner_dual_sets, inner_members, inner_sets, one_if_both}
pub use Rattle.odd_sets.specs.Trees.{outer_members, outer_sets, outer_with_both}
pub use Rattle.odd_sets.specs.Values.{BranchValue, MatchValue, PartValue, PartialMatchingValue, SearchValue}
pub use Rattle.odd_sets.specs.declared.branches.Branch.{Branch}
pub use Rattle.odd_sets.specs.declared.matches.Match.{Match}
pub use Rattle.odd_sets.specs.declared.odd_set.TightEdge.{TightEdge}
pub use Rattle.odd_sets.specs.declared.table.TheConstants.{FAR, MAX_DISTANCE}
