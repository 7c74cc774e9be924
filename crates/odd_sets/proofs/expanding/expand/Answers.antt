use Rattle.std.proofs.Common.{arith}
use Rattle.odd_sets.proofs.Names.{parts_in}
use Rattle.odd_sets.proofs.FreedLemmas.{can_lay_freed, expanded_freed, freed, freed_sets, grows_freed, inner_slot, places_stay, blossom_stays, split_slots}
use Rattle.odd_sets.proofs.expanding.expand.Goals as goal

pub remove-slot-requires : goal.remove-slot-requires
remove-slot-requires c =
    let s = split_slots c.args.sets.now c.args.root c.args.tree.now.items c.split_off.new.self.items c.in_ok-later.later.items
    c.remove-b.result c.args.rest.now.items c.remove-b.new.self.items c.args.at c.requires.can c.remove-b.ensures.value
    c.remove-b.ensures.items c.in_ok-later.ensures.items c.in_ok-later.ensures.tail in
    inner_slot _ _ _ _ _ _ _ s c.requires.sets

pub even_way-requires-clause-blossom : goal.even_way-requires-clause-blossom
even_way-requires-clause-blossom c =
    let s = split_slots c.args.sets.now c.args.root c.args.tree.now.items c.split_off.new.self.items c.in_ok-later.later.items
    c.remove-b.result c.args.rest.now.items c.remove-b.new.self.items c.args.at c.requires.can c.remove-b.ensures.value
    c.remove-b.ensures.items c.in_ok-later.ensures.items c.in_ok-later.ensures.tail in
    let f = freed _ _ _ _ _ _ _ c.remove-slot.new.self c.remove-slot.result s c.requires.sets c.remove-slot.ensures.value
    c.remove-slot.ensures.updates in
    blossom_stays f

pub even_way-requires-clause-entry_in : goal.even_way-requires-clause-entry_in
even_way-requires-clause-entry_in c =
    let s = split_slots c.args.sets.now c.args.root c.args.tree.now.items c.split_off.new.self.items c.in_ok-later.later.items
    c.remove-b.result c.args.rest.now.items c.remove-b.new.self.items c.args.at c.requires.can c.remove-b.ensures.value
    c.remove-b.ensures.items c.in_ok-later.ensures.items c.in_ok-later.ensures.tail in
    let f = freed _ _ _ _ _ _ _ c.remove-slot.new.self c.remove-slot.result s c.requires.sets c.remove-slot.ensures.value
    c.remove-slot.ensures.updates in
    omega (arith, s.up_to, places_stay f c.remove-b.result.up.to)

pub even_way-requires-clause-exit_in : goal.even_way-requires-clause-exit_in
even_way-requires-clause-exit_in c =
    let s = split_slots c.args.sets.now c.args.root c.args.tree.now.items c.split_off.new.self.items c.in_ok-later.later.items
    c.remove-b.result c.args.rest.now.items c.remove-b.new.self.items c.args.at c.requires.can c.remove-b.ensures.value
    c.remove-b.ensures.items c.in_ok-later.ensures.items c.in_ok-later.ensures.tail in
    let f = freed _ _ _ _ _ _ _ c.remove-slot.new.self c.remove-slot.result s c.requires.sets c.remove-slot.ensures.value
    c.remove-slot.ensures.updates in
    omega (arith, s.pair_from, places_stay f c.remove-b.result.pair.from)

pub split_blossom-requires : goal.split_blossom-requires
split_blossom-requires c =
    let s = split_slots c.args.sets.now c.args.root c.args.tree.now.items c.split_off.new.self.items c.in_ok-later.later.items
    c.remove-b.result c.args.rest.now.items c.remove-b.new.self.items c.args.at c.requires.can c.remove-b.ensures.value
    c.remove-b.ensures.items c.in_ok-later.ensures.items c.in_ok-later.ensures.tail in
    let f = freed _ _ _ _ _ _ _ c.remove-slot.new.self c.remove-slot.result s c.requires.sets c.remove-slot.ensures.value
    c.remove-slot.ensures.updates in
    can_lay_freed f (parts_in c.remove-slot.new.self c.in_ok-blossom.blossom.items) c.in_ok-blossom.ensures

pub returns-clause-expands : goal.returns-clause-expands
returns-clause-expands c =
    let s = split_slots c.args.sets.now c.args.root c.args.tree.now.items c.split_off.new.self.items c.in_ok-later.later.items
    c.remove-b.result c.args.rest.now.items c.remove-b.new.self.items c.args.at c.requires.can c.remove-b.ensures.value
    c.remove-b.ensures.items c.in_ok-later.ensures.items c.in_ok-later.ensures.tail in
    let f = freed _ _ _ _ _ _ _ c.remove-slot.new.self c.remove-slot.result s c.requires.sets c.remove-slot.ensures.value
    c.remove-slot.ensures.updates in (
      c.remove-b.result.inner.key,
      expanded_freed f (parts_in c.remove-slot.new.self c.in_ok-blossom.blossom.items) _ _ _ _ c.in_ok-blossom.ensures
          c.in_ok-matches.ensures c.in_ok-append.ensures.items c.in_ok-append-2.ensures.items,
    )

pub returns-clause-grows : goal.returns-clause-grows
returns-clause-grows c =
    let s = split_slots c.args.sets.now c.args.root c.args.tree.now.items c.split_off.new.self.items c.in_ok-later.later.items
    c.remove-b.result c.args.rest.now.items c.remove-b.new.self.items c.args.at c.requires.can c.remove-b.ensures.value
    c.remove-b.ensures.items c.in_ok-later.ensures.items c.in_ok-later.ensures.tail in
    let f = freed _ _ _ _ _ _ _ c.remove-slot.new.self c.remove-slot.result s c.requires.sets c.remove-slot.ensures.value
    c.remove-slot.ensures.updates in
    grows_freed f (parts_in c.remove-slot.new.self c.in_ok-blossom.blossom.items) _ _ _
    c.args.rest.now.items c.remove-b.new.self.items c.args.at c.requires.can c.remove-b.ensures.value
    c.remove-b.ensures.items c.in_ok-later.ensures.items c.in_ok-later.ensures.tail c.in_ok-matches.ensures
    c.in_ok-append-2.ensures.items

pub returns-clause-root : goal.returns-clause-root
returns-clause-root c =
    let s = split_slots c.args.sets.now c.args.root c.args.tree.now.items c.split_off.new.self.items c.in_ok-later.later.items
    c.remove-b.result c.args.rest.now.items c.remove-b.new.self.items c.args.at c.requires.can c.remove-b.ensures.value
    c.remove-b.ensures.items c.in_ok-later.ensures.items c.in_ok-later.ensures.tail in
    let f = freed _ _ _ _ _ _ _ c.remove-slot.new.self c.remove-slot.result s c.requires.sets c.remove-slot.ensures.value
    c.remove-slot.ensures.updates in
    f.same_root

pub returns-clause-sets : goal.returns-clause-sets
returns-clause-sets c =
    let s = split_slots c.args.sets.now c.args.root c.args.tree.now.items c.split_off.new.self.items c.in_ok-later.later.items
    c.remove-b.result c.args.rest.now.items c.remove-b.new.self.items c.args.at c.requires.can c.remove-b.ensures.value
    c.remove-b.ensures.items c.in_ok-later.ensures.items c.in_ok-later.ensures.tail in
    let f = freed _ _ _ _ _ _ _ c.remove-slot.new.self c.remove-slot.result s c.requires.sets c.remove-slot.ensures.value
    c.remove-slot.ensures.updates in
    freed_sets f (parts_in c.remove-slot.new.self c.in_ok-blossom.blossom.items) _ _ _ _ c.requires.sets
    c.in_ok-blossom.ensures
    c.in_ok-matches.ensures c.in_ok-append.ensures.items c.in_ok-append-2.ensures.items
