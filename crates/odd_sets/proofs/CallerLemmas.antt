-- The lemmas of this crate that proofs above cite.
pub use Rattle.odd_sets.proofs.BlossomLemmas.{made_kept}
pub use Rattle.odd_sets.proofs.ChainLemmas.{around_append, tight_back}
pub use Rattle.odd_sets.proofs.ExpandLemmas.{drop_past, grown-right}
pub use Rattle.odd_sets.proofs.HandleLemmas.{no_branch, no_match}
pub use Rattle.odd_sets.proofs.FirstLemmas.{IsFirst, first_or_last}
pub use Rattle.odd_sets.proofs.ListLemmas.{drop_here, each-append, each-drop, each-left, each-map, each-push, each-right, each-take}
pub use Rattle.odd_sets.proofs.ListLemmas.{each_here, get_or_self, mapped_at, mapped_cut, mapped_drop, mapped_item, mapped_low}
pub use Rattle.odd_sets.proofs.ListLemmas.{number_here, pairs-append, take_here, written}
pub use Rattle.odd_sets.proofs.MatchLemmas.{match_here}
pub use Rattle.odd_sets.proofs.RaisedLemmas.{at_drop, count_at, more_by, outer_places}
pub use Rattle.odd_sets.proofs.ShrinkLemmas.{two_even}
pub use Rattle.odd_sets.proofs.ShrunkLemmas.{all_uses}
pub use Rattle.odd_sets.proofs.SlackRowLemmas.{IsLeftAt, far_is, lowered_far, lowered_less, lowered_near, near_is, near_least, not_hit}
pub use Rattle.odd_sets.proofs.SlackRowLemmas.{single_near}
pub use Rattle.odd_sets.proofs.SlotLemmas.{either, has_slot, inserted_keeps, keep_branches, keep_matches, keep_seat, no_slot, set_more}
pub use Rattle.odd_sets.proofs.SlotLemmas.{set_of, sets_fewer, sets_left, sets_right}
pub use Rattle.odd_sets.proofs.SumLemmas.{bands_push, by_count, by_either, count-append, dual_load-append, dual_load-comm}
pub use Rattle.odd_sets.proofs.SumLemmas.{dual_sets-append, height-append, hit_is, hit_same, key_count-append, load_across, load_alone}
pub use Rattle.odd_sets.proofs.SumLemmas.{load_along, low, members-append, members_each, members_push, none_hold, none_tall, size-append}
pub use Rattle.odd_sets.proofs.SumLemmas.{some_member, total-append}
pub use Rattle.odd_sets.proofs.TableLemmas.{entry-comm}
pub use Rattle.odd_sets.proofs.TreeLemmas.{around_first, around_none, around_same, base_in, grown_push, outer_members_base}
