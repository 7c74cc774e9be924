-- Names from elsewhere that several files of these proofs use.
pub use Rattle.std.proofs.lemmas.Bool.{cases_lt, eq-eqb, eqb-false, eqb-true, lt-ltb, ltb-false, ltb-true}
pub use Rattle.std.proofs.lemmas.Bool.Decides.{nat_tests}
pub use Rattle.std.proofs.lemmas.Grind.{reverse_onto, same_number_lists}
pub use Rattle.std.proofs.lemmas.List.{append-nil, length-map, length-take, map-append, reverse-append, take-append-drop}
pub use Rattle.std.proofs.lemmas.List.FromFn.{get_or-map-range_with_len, length-map-range_with_len, map-range_with_len_more}
pub use Rattle.std.specs.List.{flat_map, range_with_len}
pub use Rattle.std.specs.Vec.Iter.{into_iter_items}
pub use Rattle.odd_sets.specs.BlossomSlacks.{HaveSlacks, blossom_set, blossom_slack, blossom_slacks, blossom_slacks_of, least_part_slack}
pub use Rattle.odd_sets.specs.Blossoms.{AreOddSets, EdgeLeadsTo, FirstPartHolds, IsBlossom, IsPartCycle, IsPartPath, IsRotated}
pub use Rattle.odd_sets.specs.Blossoms.{IsVertexOrBlossom, PartHoldsAt, blossom_edge_of, blossom_edges_in, cycle_edges, dual_sets_in}
pub use Rattle.odd_sets.specs.Blossoms.{members_in, odd_set_of, part_sets, path_edges, reversed_edge, slack_rows_in, vertex_set}
pub use Rattle.odd_sets.specs.DualSets.{AreTightInside, DualSet, IsAdditive, IsOddSet, IsOutside, IsTightInside, NoneHold, OddSetValue}
pub use Rattle.odd_sets.specs.DualSets.{apart, count, dual_load, dual_sets, dual_sets_of, height, key_count, members_onto, one_if_equal}
pub use Rattle.odd_sets.specs.DualSets.{slack_rows_of, total}
pub use Rattle.odd_sets.specs.Expansions.{CanExpand, CanSplitBlossom, EdgeLeadsInto, Expands, FirstCanExpand, HoldsAtEvenIndex}
pub use Rattle.odd_sets.specs.Expansions.{InsertsBranches, IsEvenlyOriented, SplitsBlossom, last_edge_of, reversed_blossom, reversed_onto}
pub use Rattle.odd_sets.specs.Lists.{Each, EachPair, sum_over}
pub use Rattle.odd_sets.specs.MatchedSets.{FirstMatchHolds, IsMatch, IsTightMatch, MatchHolds, match_dual_sets, match_members, match_sets}
pub use Rattle.odd_sets.specs.MatchedSets.{matches_along}
pub use Rattle.odd_sets.specs.Shrinks.{CanClose, CanShrink, IsChainTo, IsOpenChain, Shrinks, branch_of, closed_blossom, part_with_edge}
pub use Rattle.odd_sets.specs.SlackRows.{IsSlackRow, MergesSlacks, lowered_slack, vertex_slack, vertex_slacks}
pub use Rattle.odd_sets.specs.Slots.{AreSets, AreSlacksOf, InsertsSet, IsSet, IsSetToDepth, KeepsOtherSlots, Slots, branch_in, branches_in}
pub use Rattle.odd_sets.specs.Slots.{match_in, matches_in, members_at, part_in, part_to_depth, part_with_inside, parts_at, parts_in, set_in}
pub use Rattle.odd_sets.specs.Slots.{slacks_at, slot_members, slot_parts, slot_slacks}
pub use Rattle.odd_sets.specs.SoundSets.{IsSoundBranch, IsSoundMatch, IsSoundPart, IsSoundSet, IsSymmetric, IsTight}
pub use Rattle.odd_sets.specs.TableValue.{TableValue}
pub use Rattle.odd_sets.specs.Tables.{IsStored, IsTable, after_set, entry}
pub use Rattle.odd_sets.specs.Trees.{Augments, CanAugment, IsAlternatingTree, PairsBranch, RemovesMatch, all_dual_sets, branch_dual_sets}
pub use Rattle.odd_sets.specs.Trees.{branch_sets, inner_dual_sets, inner_members, one_if_both, outer_members, outer_sets, outer_with_both}
pub use Rattle.odd_sets.specs.Values.{BranchValue, MatchValue, PartValue}
pub use Rattle.odd_sets.specs.declared.branches.Branch.{Branch}
pub use Rattle.odd_sets.specs.declared.matches.Match.{Match}
pub use Rattle.odd_sets.specs.declared.odd_set.BlossomPart.{BlossomPart}
pub use Rattle.odd_sets.specs.declared.odd_set.Handle.{Handle}
pub use Rattle.odd_sets.specs.declared.odd_set.Slot.{Slot}
pub use Rattle.odd_sets.specs.declared.odd_set.TightEdge.{TightEdge}
pub use Rattle.odd_sets.specs.declared.table.TheConstants.{FAR, MAX_DISTANCE, MAX_PLACES}
pub use Rattle.slab.specs.Slab.{ContainsKey, Updates, get}
